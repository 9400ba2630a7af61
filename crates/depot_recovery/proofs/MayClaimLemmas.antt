-- In a core that was found nobody claims, so a partition is ready exactly if it may be claimed.
use Rattle.std.proofs.Common.{◌≡◌, ◌≢◌, List, [], ap, refl}
use Rattle.std.specs.Prelude.{◌&&◌, Bool, false, true}
use Rattle.std.specs.List.{list_all}
use Rattle.std.proofs.lemmas.List.Elements.{All-nil, All-same}
use Rattle.desc_types.specs.Descriptions.{DescOf}
use Rattle.desc_types.specs.declared.table.Key.{Key}
use Rattle.view_meaning.specs.Partitions.{is_part, sources_of}
use Rattle.view_meaning.specs.Staleness.{is_settled, is_stale}
use Rattle.view_meaning.specs.declared.journal.Entry.{Entry}
use Rattle.machine_meaning.specs.declared.claim.Claim.{Claim}
use Rattle.machine_meaning.specs.States.{State}
use Rattle.claim_core.specs.Cores.{CoreOf, IsFound, TellsReady}
use Rattle.depot_recovery.specs.Claims.{may_claim}

-- one of three tests fails if they do not all pass
and-false : (first second third : Bool)
    → (first ≡ true → second ≡ true → third ≡ true → ⊥) → false ≡ (first && second && third)
and-false true true true not_all = absurd (not_all refl refl refl)
and-false true true false not_all = refl
and-false true false third not_all = refl
and-false false second third not_all = refl

-- if nothing is claimed, a partition is ready exactly if it may be claimed
TellsReady-may_claim : (desc : DescOf) (state : State) (key : Key) (told : Bool)
    → state.claims ≡ [] → TellsReady desc state key told
    → told ≡ may_claim desc state.journal key
TellsReady-may_claim desc state key true unclaimed tells =
    rw (tells.part, tells.stale, tells.ready) refl
TellsReady-may_claim desc state key false unclaimed tells =
    and-false (is_part desc key) (is_stale desc state.journal key)
    (list_all (is_settled desc state.journal) (sources_of desc key))
    (λ part stale ready. tells (record {
      part = part;
      stale = stale;
      ready = ready;
      free = All-same (λ (claim : Claim). claim.key ≢ key) state.claims [] unclaimed
          (All-nil (λ (claim : Claim). claim.key ≢ key));
    }))

-- so it is in a core that was found
pub may_claim-found : (desc : DescOf) (journal : List Entry) (core : CoreOf) (key : Key)
    (told : Bool) → IsFound desc journal core → TellsReady core.desc core.state key told
    → told ≡ may_claim core.desc core.state.journal key
may_claim-found desc journal core key told found tells =
    TellsReady-may_claim core.desc core.state key told
    (ap (λ (state : State). state.claims) found.state) tells
