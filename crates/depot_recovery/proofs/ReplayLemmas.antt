-- How a journal is read on: record 0, and then entry by entry.
use Rattle.std.proofs.Common.{arith, ◌≡◌, ◌∙◌, ℕ, ◌+◌, List, [], ◌∷◌, ap, length, refl, false, subst, sym, true}
use Rattle.std.specs.Prelude.{Bool, Option, is_some, not}
use Rattle.desc_types.specs.Accepted.{IsAccepted}
use Rattle.desc_types.specs.Deliveries.{DeliveryOf}
use Rattle.desc_types.specs.Descriptions.{DescOf}
use Rattle.view_meaning.specs.declared.journal.Entry.{Entry}
use Rattle.view_meaning.specs.Journal.{accepted, is_repeat, is_same}
use Rattle.raw_load.specs.Books.{RawBookOf, deliveries_of, place_in}
use Rattle.machine_meaning.specs.States.{State}
use Rattle.machine_meaning.specs.Events.{with_entry}
use Rattle.claim_core.specs.Cores.{CoreOf, IsFound}
use Rattle.catalog_journal.proofs.SpellLemmas.{length-open_records-push}
use Rattle.claim_core.proofs.JournalViewLemmas.{is_some-place_in}
use Rattle.std.specs.List.{list_any}
use Rattle.depot_recovery.specs.Depots.{first_body}
use Rattle.row_codec.specs.declared.body.Body.{Body}
use Rattle.row_codec.specs.Bodies.{IsBody, body_bytes}
use Rattle.depot_recovery.specs.Claims.{may_follow}
use Rattle.depot_recovery.specs.Found.{len_of}
use Rattle.depot_recovery.specs.Noted.{AreNoted, AreUpToDate, ClaimsOf}
use Rattle.depot_recovery.specs.Replaying.{HasRead, IsReplayOf, ReadsMore, ReplayOf, StatesEntry}
use Rattle.depot_recovery.proofs.NotedLemmas.{AreNoted-grown}

-- whether a number has a place tells whether it is a repeat
pub place-repeat : (told : RawBookOf) (journal : List Entry) (delivery : DeliveryOf)
    (place : Option ℕ) → deliveries_of told ≡ accepted journal
    → place ≡ place_in told.loads delivery.feed delivery.number
    → is_some place ≡ is_repeat journal delivery
place-repeat told journal delivery place all is =
    ap is_some is ∙ is_some-place_in told.loads delivery
    ∙ ap (λ (deliveries : List DeliveryOf). list_any (is_same delivery) deliveries) all

pub none-new : (none repeat : Bool) → not none ≡ repeat → none ≡ not repeat
none-new true repeat is = ap not is
none-new false repeat is = ap not is

-- a core of a journal that was found is one of its own
pub IsFound-own : (desc : DescOf) (journal : List Entry) (core : CoreOf)
    → IsFound desc journal core → IsFound core.desc core.state.journal core
IsFound-own desc journal core found =
    subst (λ (its : List Entry). IsFound core.desc its core)
    (sym (ap (λ (state : State). state.journal) found.state))
    (subst (λ (its : DescOf). IsFound its journal core) (sym found.served) found)

-- the empty journal of the description in record 0
pub IsReplayOf-first : (first : List ℕ) (desc : DescOf) (core : CoreOf) → IsAccepted desc
    → first ≡ first_body desc → IsFound desc [] core → IsReplayOf (first ∷ []) core
IsReplayOf-first first desc core fine is found = record {
  made = rw (found.served, ap (λ state. state.journal) found.state)
      (record { accepted = fine; written = tt; legal = tt });
  spelled = rw (found.served, ap (λ state. state.journal) found.state, is) refl;
  found = IsFound-own desc [] core found;
}

pub HasRead-first : (first : List ℕ) (desc : DescOf) (core : CoreOf) (claims : ClaimsOf)
    → IsAccepted desc → first ≡ first_body desc → IsFound desc [] core
    → ((desc : DescOf) → AreNoted desc [] claims)
    → HasRead (first ∷ []) (record { core = core; claims = claims; gate = 5 + length first })
HasRead-first first desc core claims fine is found noted = record {
  core = IsReplayOf-first first desc core fine is found;
  noted = rw (ap (λ state. state.journal) found.state) (noted core.desc);
  gate = omega (arith, length-open_records-push [] first);
}

-- one entry more: what a body states, and may follow
pub ReadsMore-restored : (bytes : List ℕ) (stated : Body) (next : Entry) (old : ReplayOf)
    (core : CoreOf) (claims : ClaimsOf) → IsBody stated → bytes ≡ body_bytes stated
    → StatesEntry old.core.desc stated next
    → may_follow old.core.desc old.core.state.journal next ≡ true
    → AreUpToDate old.core.desc old.core.state.journal claims
    → claims.claims ≡ old.claims.claims
    → IsFound old.core.desc (with_entry old.core.state.journal next) core
    → ReadsMore bytes old
    (record { core = core; claims = claims; gate = old.gate + (5 + length bytes) })
ReadsMore-restored bytes stated next old core claims body spelled states may upto same found =
    let journal = ap (λ (state : State). state.journal) found.state in
    record {
      next = next;
      len = len_of stated;
      stated = spelled ∙ ap body_bytes states.same;
      writable = record {
        fits = states.fits;
        delivery = states.delivery;
        body = subst IsBody states.same body;
      };
      desc = found.served;
      journal = journal;
      found = IsFound-own _ _ core found;
      claims = same;
      noted = subst (λ (its : List Entry). AreNoted core.desc its claims) (sym journal)
          (subst (λ (its : DescOf). AreNoted its (with_entry old.core.state.journal next) claims)
          (sym found.served) (AreNoted-grown old.core.desc old.core.state.journal next claims upto));
      gate = refl;
    }
