-- What holds of a sound core, and that it stays sound: after a call that makes room or changes
-- nothing that is told (`IsSound-room`), and after an event that adds no entry (`IsSound-event`).
-- An event of a good state makes a good one (`Steps-from`).
use Rattle.std.proofs.Common.{◌≡◌, ◌∙◌, List, ap, refl, subst, sym}
use Rattle.std.proofs.lemmas.List.Elements.{All-weaker}
use Rattle.std.proofs.lemmas.Option.{IfSome_then}
use Rattle.desc_types.specs.Deliveries.{DeliveryOf}
use Rattle.desc_types.specs.Descriptions.{DescOf}
use Rattle.view_meaning.specs.declared.journal.Entry.{Entry}
use Rattle.view_meaning.specs.Journal.{accepted}
use Rattle.depot_marks.specs.MarkBooks.{MarkBookOf, TellsMarks}
use Rattle.query_pin.specs.declared.input.Input.{Input}
use Rattle.query_pin.specs.Kept.{KeptListOf, SameKept}
use Rattle.query_pin.specs.Pins.{PinOf}
use Rattle.raw_load.specs.Books.{deliveries_of}
use Rattle.stale_test.specs.Books.{StaleBookOf, TellsStale}
use Rattle.machine_meaning.specs.Events.{Event, Step}
use Rattle.machine_meaning.specs.States.{HoldsRight, IsAtHand, IsGood, IsGoodClaim}
use Rattle.machine_meaning.specs.States.{State, latest}
use Rattle.machine_meaning.proofs.StepLemmas.{good_steps}
use Rattle.claim_core.specs.Cores.{CoreOf, IsSound, SameCore, SameState, Steps}
use Rattle.claim_core.specs.JournalView.{AreSteps, entries_of}
use Rattle.claim_core.specs.declared.step.Step.{Step as StepOf}
use Rattle.claim_core.proofs.JournalViewLemmas.{accepted-entries_of}

-- a list of held versions tells the same as itself
pub SameKept-itself : (held : KeptListOf) → SameKept held held
SameKept-itself held = record { entry = λ read. refl; newest = λ key. refl }

-- a core is as it was, if only versions are held in another list that tells the same
pub SameCore-held : (old new : CoreOf) → new.desc ≡ old.desc
    → new.state ≡ record old.state { held = new.state.held }
    → SameKept old.state.held new.state.held → SameCore old new
SameCore-held old new desc state same = record {
  desc = desc;
  state = record {
    journal = ap (λ (state : State). state.journal) state;
    claims = ap (λ (state : State). state.claims) state;
    pins = ap (λ (state : State). state.pins) state;
    held = same;
  };
}

-- so it is, if its state is the same
pub SameCore-state : (old new : CoreOf) → new.desc ≡ old.desc → new.state ≡ old.state
    → SameCore old new
SameCore-state old new desc state = record {
  desc = desc;
  state = record {
    journal = ap (λ (state : State). state.journal) state;
    claims = ap (λ (state : State). state.claims) state;
    pins = ap (λ (state : State). state.pins) state;
    held = rw state (SameKept-itself old.state.held);
  };
}

-- a version that is at hand is so in a list of held versions that tells the same
IsAtHand-same : (desc : DescOf) (journal : List Entry) (old new : KeptListOf) (read : Input)
    → SameKept old new → IsAtHand desc journal old read → IsAtHand desc journal new read
IsAtHand-same desc journal old new read same hand = record {
  known = hand.known;
  there = λ view some. rw (same.entry read) (hand.there view some);
}

-- what is held is right in a list that tells the same
HoldsRight-same_kept : (desc : DescOf) (old : State) (held : KeptListOf) → SameKept old.held held
    → HoldsRight desc old → HoldsRight desc (record old { held = held })
HoldsRight-same_kept desc old held same right = record {
  made = λ read. rw (same.entry read) (right.made read);
  current = λ key. IsAtHand-same desc old.journal old.held held (latest desc old.journal key) same
      (right.current key);
  newest = λ key view. same.newest key ∙ right.newest key view;
}

-- a state is good with a list of held versions that tells the same
IsGood-same_kept : (desc : DescOf) (old : State) (held : KeptListOf) → SameKept old.held held
    → IsGood desc old → IsGood desc (record old { held = held })
IsGood-same_kept desc old held same good =
    let hand = IsAtHand desc old.journal in
    record {
      fits = good.fits;
      legal = good.legal;
      apart = good.apart;
      claims = All-weaker (IsGoodClaim desc old) (IsGoodClaim desc (record old { held = held }))
          (λ claim is. record { may = is.may; pinned = is.pinned }) old.claims good.claims;
      held = HoldsRight-same_kept desc old held same good.held;
      ordered = good.ordered;
      pinned = λ id. IfSome_then _ (good.pinned id) (λ (pin : PinOf) all.
          All-weaker (hand old.held) (hand held)
          (λ read. IsAtHand-same desc old.journal old.held held read same) pin.versions all);
    }

-- a state that is as it was is good as it was
pub IsGood-same : (desc : DescOf) (old new : State) → SameState old new → IsGood desc old
    → IsGood desc new
IsGood-same desc old new same good =
    let whole : record old { held = new.held } ≡ new = λ i. record {
      journal = sym same.journal i;
      claims = sym same.claims i;
      pins = sym same.pins i;
      held = new.held;
    } in
    subst (IsGood desc) whole (IsGood-same_kept desc old new.held same.held good)

-- the deliveries that a core keeps are the accepted ones. An answer hands in what `self` is inside,
-- its view, and `refl`
pub deliveries_of-accepted : (core self : CoreOf) (steps : List StepOf) → core ≡ self
    → AreSteps steps (deliveries_of core.raw.told)
    → core.state.journal ≡ entries_of steps (deliveries_of core.raw.told)
    → deliveries_of self.raw.told ≡ accepted self.state.journal
deliveries_of-accepted core self steps view are journal =
    subst (λ (self : CoreOf). deliveries_of self.raw.told ≡ accepted self.state.journal) view
    (sym (ap accepted journal ∙ accepted-entries_of steps (deliveries_of core.raw.told) are.loads))

-- a book of marks tells what it told, and so does a book of stale partitions
abbrev pub KeepsMarks : (old new : MarkBookOf) → Type 0
KeepsMarks old new = (desc : DescOf) (accepted : List DeliveryOf) → TellsMarks desc accepted old
    → TellsMarks desc accepted new

abbrev pub KeepsStale : (old new : StaleBookOf) → Type 0
KeepsStale old new = (desc : DescOf) (journal : List Entry) → TellsStale desc journal old
    → TellsStale desc journal new

-- a core that is as it was is sound, if its books tell what they told
pub IsSound-room : (old new : CoreOf) (steps : List StepOf) → IsSound old steps
    → SameCore old new → new.raw.told ≡ old.raw.told → KeepsMarks old.marks new.marks
    → KeepsStale old.stale new.stale → IsSound new steps
IsSound-room old new steps sound same told marks stale = record {
  loads = rw told sound.loads;
  placed = rw told sound.placed;
  good = rw same.desc (IsGood-same old.desc old.state new.state same.state sound.good);
  raw = rw (same.desc, told) sound.raw;
  marks = rw (same.desc, same.state.journal)
      (marks old.desc (accepted old.state.journal) sound.marks);
  stale = rw (same.desc, same.state.journal) (stale old.desc old.state.journal sound.stale);
}

-- the description, the journal and the books are as they were
pub record SameBooks (old new : CoreOf) : Type 0 where
  pub desc : new.desc ≡ old.desc
  pub journal : new.state.journal ≡ old.state.journal
  pub told : new.raw.told ≡ old.raw.told
  pub marks : new.marks ≡ old.marks
  pub stale : new.stale ≡ old.stale

-- an event of a good state leads to a good one
pub Steps-from : (old new : CoreOf) (event : Event) → new.desc ≡ old.desc
    → IsGood old.desc old.state → Step old.desc old.state event new.state → Steps old event new
Steps-from old new event desc good step = record {
  desc = desc;
  step = step;
  good = rw desc (good_steps old.desc old.state new.state event good step);
}

-- so an event that adds no entry leads to a sound core
pub IsSound-event : (old new : CoreOf) (steps : List StepOf) (event : Event) → IsSound old steps
    → SameBooks old new → Step old.desc old.state event new.state → IsSound new steps
IsSound-event old new steps event sound same step = record {
  loads = rw same.told sound.loads;
  placed = rw same.told sound.placed;
  good = (Steps-from old new event same.desc sound.good step).good;
  raw = rw (same.desc, same.told) sound.raw;
  marks = rw (same.desc, same.journal, same.marks) sound.marks;
  stale = rw (same.desc, same.journal, same.stale) sound.stale;
}
