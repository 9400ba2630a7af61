-- What a run keeps stays true: if nothing that is told has changed (`IsKept-as_before`), after a
-- load (`IsKept-load`), and at the start (`IsKept-found`).
use Rattle.std.proofs.Common.{◌≡◌, ◌∙◌, ◌≤◌, List, [], ap, arith, subst, sym, take_all}
use Rattle.std.specs.Prelude.{fold, length}
use Rattle.desc_types.specs.Deliveries.{DeliveryOf}
use Rattle.desc_types.specs.Descriptions.{DescOf}
use Rattle.desc_types.specs.Sources.{HasEarlierSources}
use Rattle.view_meaning.specs.declared.journal.Entry.{Entry}
use Rattle.view_meaning.specs.declared.journal.Entry.TheVariants as entry
use Rattle.view_meaning.specs.Drains.{drained, unsettled, with_install}
use Rattle.machine_meaning.specs.Events.{Loads, with_entry}
use Rattle.machine_meaning.specs.States.{IsGood, State}
use Rattle.machine_meaning.specs.VersionCounts.{versions_made}
use Rattle.claim_core.specs.Cores.{CoreOf, IsFound, Steps}
use Rattle.claim_core.proofs.SoundLemmas.{IsGood-same}
use Rattle.run_journal.specs.KeptJournals.{DrainsSome, IsKept, JournalOf, TellsAsBefore, entries_of}
use Rattle.run_journal.proofs.ContentsLemmas.{KeepsContents-load, KeepsContents-none}
use Rattle.run_journal.proofs.ContentsLemmas.{KeepsContents-same}
use Rattle.run_journal.proofs.VersionCountLemmas.{versions_made-load}

-- what is kept stays true of a journal that tells what it told before
pub IsKept-as_before : (desc : DescOf) (old new : JournalOf) → TellsAsBefore old new
    → IsKept desc old → IsKept desc new
IsKept-as_before desc old new same kept = record {
  served = same.core.desc ∙ kept.served;
  earlier = kept.earlier;
  good = IsGood-same desc old.core.state new.core.state same.core.state kept.good;
  claims = same.core.state.claims ∙ kept.claims;
  pins = same.core.state.pins ∙ kept.pins;
  contents = rw same.contents (KeepsContents-same desc old.core.state new.core.state old.contents
      same.core.state kept.contents);
  made = rw (same.core.state.journal, same.contents) kept.made;
}

-- a load makes no version, so there is none more whose contents are kept
made-load : (old new : JournalOf) (delivery : DeliveryOf)
    → entries_of new ≡ with_entry (entries_of old) (entry.Load delivery)
    → new.contents ≡ old.contents → length old.contents ≤ versions_made (entries_of old)
    → length new.contents ≤ versions_made (entries_of new)
made-load old new delivery entries contents made =
    rw (contents, entries, versions_made-load (entries_of old) delivery) made

-- so what is kept stays true after it
pub IsKept-load : (desc : DescOf) (old new : JournalOf) (delivery : DeliveryOf)
    → Steps old.core (Loads delivery) new.core → new.contents ≡ old.contents
    → IsKept desc old → IsKept desc new
IsKept-load desc old new delivery steps contents kept =
    let served : new.core.desc ≡ desc = steps.desc ∙ kept.served in
    let good : IsGood desc new.core.state =
    subst (λ (desc : DescOf). IsGood desc new.core.state) served steps.good in
    record {
      served = served;
      earlier = kept.earlier;
      good = good;
      claims = ap (λ (state : State). state.claims) steps.step.1 ∙ kept.claims;
      pins = ap (λ (state : State). state.pins) steps.step.1 ∙ kept.pins;
      contents = rw contents (KeepsContents-load desc old.core.state new.core.state old.contents
          (entry.Load delivery) kept.good good steps.step.1 kept.contents);
      made = made-load old new delivery (ap (λ (state : State). state.journal) steps.step.1)
          contents kept.made;
    }

-- it is true of a core of no entries
pub IsKept-found : (desc : DescOf) (core : CoreOf) → HasEarlierSources desc → IsFound desc [] core
    → IsKept desc (record { core = core; contents = [] })
IsKept-found desc core earlier found = record {
  served = found.served;
  earlier = earlier;
  good = found.good;
  claims = ap (λ (state : State). state.claims) found.state;
  pins = ap (λ (state : State). state.pins) found.state;
  contents = KeepsContents-none desc core.state found.held;
  made = omega arith;
}

-- a whole drain makes all of its installs
pub DrainsSome-drained : (desc : DescOf) (before now : List Entry) → now ≡ drained desc before
    → DrainsSome desc before now
DrainsSome-drained desc before now is_drained = record {
  many = length (unsettled desc before);
  installed = is_drained
      ∙ ap (fold with_install before)
      (sym (take_all (length (unsettled desc before)) (unsettled desc before) (omega arith)));
}
