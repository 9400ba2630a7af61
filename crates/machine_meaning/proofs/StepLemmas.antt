-- Events, one and many, lead from good states to good ones: `good_steps`, `good_runs`.
use Rattle.std.proofs.Common.{List, Some, [], subst, sym, take, ℕ, ◌∷◌, ◌≡◌}
use Rattle.std.specs.Prelude.{Any, None, Option}
use Rattle.desc_types.specs.declared.table.Key.{Key}
use Rattle.desc_types.specs.Descriptions.{DescOf}
use Rattle.view_meaning.specs.declared.journal.Entry.{Entry}
use Rattle.view_meaning.specs.Journal.{FitsEntry, FitsJournal}
use Rattle.view_meaning.specs.LegalJournals.{IsLegal, MayFollow, MayInstall}
use Rattle.view_meaning.proofs.FitLemmas.{FitsEntry-Install, FitsJournal-push}
use Rattle.view_meaning.proofs.LegalLemmas.{IsLegal-push, is_raw-stale}
use Rattle.query_pin.specs.Kept.{KeptListOf}
use Rattle.machine_meaning.specs.declared.claim.Claim.{Claim}
use Rattle.machine_meaning.specs.Events.{Abandons, Claims, HasGoodRuns, HasGoodSteps, HoldsLatest}
use Rattle.machine_meaning.specs.Events.{Installs, IsLeft, Loads, Pins, Reclaims, Stops, Unpins}
use Rattle.machine_meaning.specs.Events.{asked, found, with_entry}
use Rattle.machine_meaning.specs.States.{IsGood, IsGoodClaim, State}
use Rattle.machine_meaning.proofs.ClaimLemmas.{claim_at-own}
use Rattle.machine_meaning.proofs.GoodLemmas.{asked-at_hand, claim-good, end-good, good_starts}
use Rattle.machine_meaning.proofs.GoodLemmas.{installed-good, load-good, pin-good, reclaim-good}
use Rattle.machine_meaning.proofs.GoodLemmas.{unpin-good}
use Rattle.view_meaning.specs.declared.journal.Entry.TheVariants as entry

-- what a stop leaves fits and is legal
record IsLegalAndFits (desc : DescOf) (journal : List Entry) : Type 0 where
  fits : FitsJournal desc journal
  legal : IsLegal desc journal

-- so is a good state's journal with an entry that may follow
IsLegalAndFits-push : (desc : DescOf) (old : State) (next : Entry) → IsGood desc old
    → FitsEntry desc next → MayFollow desc old.journal next
    → IsLegalAndFits desc (with_entry old.journal next)
IsLegalAndFits-push desc old next good fits follows = record {
  fits = FitsJournal-push desc old.journal next good.fits fits;
  legal = IsLegal-push desc old.journal next good.legal follows;
}

-- the partition of a claim may be installed with its place
MayInstall-claimed : (desc : DescOf) (old : State) (key : Key) (at : ℕ) → IsGood desc old
    → Any (λ (claim : Claim). (claim.key ≡ key) × (claim.at ≡ at)) old.claims
    → MayInstall desc old.journal key at
MayInstall-claimed desc old key at good any =
    let is : IsGoodClaim desc old any.1 =
    subst (IsGoodClaim desc old) any.3 (good.claims any.0 any.1 any.2) in
    subst (λ (at : ℕ). MayInstall desc old.journal key at) any.4.1
    (subst (λ (key : Key). MayInstall desc old.journal key any.1.at) any.4.0 is.may)

-- what a stop leaves is the journal of before, or that with an entry that may follow
left-legal : (desc : DescOf) (old : State) (last : Option Entry) (journal : List Entry)
    → IsGood desc old → IsLeft desc old last journal → IsLegalAndFits desc journal
left-legal desc old None journal good left =
    subst (IsLegalAndFits desc) (sym left) (record { fits = good.fits; legal = good.legal })
left-legal desc old (Some (entry.Load delivery)) journal good left =
    subst (IsLegalAndFits desc) (sym left.1)
    (IsLegalAndFits-push desc old (entry.Load delivery) good left.0.fits left.0.fresh)
left-legal desc old (Some (entry.Install key at)) journal good left =
    let may : MayInstall desc old.journal key at =
    MayInstall-claimed desc old key at good left.0 in
    subst (IsLegalAndFits desc) (sym left.1)
    (IsLegalAndFits-push desc old (entry.Install key at) good
    (FitsEntry-Install desc key at may.part
    (is_raw-stale desc (take at old.journal) key may.stale)) may)

-- so the state that is found after a stop is good
stop-good : (desc : DescOf) (old : State) (last : Option Entry) (journal : List Entry)
    (held : KeptListOf) → IsGood desc old → IsLeft desc old last journal
    → HoldsLatest desc journal held → IsGood desc (found journal held)
stop-good desc old last journal held good left holds =
    let is : IsLegalAndFits desc journal = left-legal desc old last journal good left in
    good_starts desc journal held is.fits is.legal holds

-- each event leads from a good state to a good one
pub good_steps : HasGoodSteps
good_steps desc old new (Loads delivery) good step =
    subst (IsGood desc) (sym step.1) (load-good desc old delivery good step.0)
good_steps desc old new (Claims who key) good step =
    subst (IsGood desc) (sym step.1.2)
    (claim-good desc old who step.1.0 key good step.0 step.1.1.free)
good_steps desc old new (Installs who id) good step =
    subst (IsGood desc) (sym step.3)
    (installed-good desc old step.0 new.held good
    (claim_at-own id old.claims step.0 step.1.found) step.2)
good_steps desc old new (Abandons who id) good step =
    subst (IsGood desc) (sym step.2) (end-good desc old id good)
good_steps desc old new (Pins who items) good step =
    subst (IsGood desc) (sym step.2)
    (pin-good desc old step.0 (record { who = who; versions = asked desc old.journal items }) good
    step.1.free (asked-at_hand desc old items good))
good_steps desc old new (Unpins who id) good step =
    subst (IsGood desc) (sym step.1) (unpin-good desc old id good step.0.unclaimed)
good_steps desc old new (Reclaims dead) good step =
    subst (IsGood desc) (sym step.2) (reclaim-good desc old dead new.held good step.0 step.1)
good_steps desc old new (Stops last) good step =
    subst (IsGood desc) (sym step.2)
    (stop-good desc old last new.journal new.held good step.0 step.1)

-- so do events one by one
pub good_runs : HasGoodRuns
good_runs desc old new [] good run = subst (IsGood desc) (sym run) good
good_runs desc old new (event ∷ later) good run =
    good_runs desc run.0 new later (good_steps desc old run.0 event good run.1) run.2
