-- A pin of the reader: what it may read (`IsPinnedIn-pin`), and that the journal tells what it told
-- before once the pin has ended (`TellsAsBefore-unpin`).
use Rattle.std.proofs.Common.{◌≡◌, ◌∙◌, ◌<◌, ◌∷◌, ℕ, List, [], Some, ap, arith, cond, get_or, refl}
use Rattle.std.proofs.Common.{subst, sym, true}
use Rattle.std.specs.BTreeMap.{is_at}
use Rattle.std.specs.Ordering.{is_eq, match_ordering, nat_cmp}
use Rattle.std.specs.Prelude.{All, Bool, Err, IfOk, IsSome, IsSomeAnd, None, Ok, Option, Result}
use Rattle.std.specs.Prelude.{flat_map, if◌then◌else◌, map}
use Rattle.std.specs.declared.cmp.Ordering.{Ordering}
use Rattle.std.specs.declared.cmp.Ordering.TheVariants.{Equal, Greater, Less}
use Rattle.std.proofs.lemmas.Bool.{false≢true}
use Rattle.std.proofs.lemmas.Bool.Decides.{nat_tests}
use Rattle.std.proofs.lemmas.List.Elements.{All-map}
use Rattle.std.proofs.lemmas.Option.{none-some}
use Rattle.desc_types.specs.declared.table.Key.{Key}
use Rattle.desc_types.specs.Descriptions.{DescOf}
use Rattle.view_meaning.specs.declared.request.Item.{Item}
use Rattle.view_meaning.specs.declared.request.PinItem.{PinItem}
use Rattle.view_meaning.specs.Shown.{keys_shown}
use Rattle.query_pin.specs.declared.input.Input.{Input}
use Rattle.query_pin.specs.Kept.{KeptListOf, SameKept}
use Rattle.query_pin.specs.Pins.{IsLeastFree, PinOf, PinnedOf, pin_at, with_pin, without_pin}
use Rattle.machine_meaning.specs.Events.{IsPinOf, Pins, Unpins, asked, pinned}
use Rattle.machine_meaning.specs.States.{IsAtHand, State, latest}
use Rattle.claim_core.specs.Cores.{IsPinnedOf, Steps, shown_item, version_shown}
use Rattle.run_journal.specs.KeptJournals.{IsKept, JournalOf, KeepsContents, TellsAsBefore}
use Rattle.run_journal.specs.KeptJournals.{entries_of}
use Rattle.run_journal.specs.Pinning.{IsBesidePin, IsPinnedIn, MayBeRead, READER}
use Rattle.run_journal.proofs.ContentsLemmas.{Contents}

-- the least free id is not below another one that is free
IsLeastFree-le : (pins : List (ℕ × PinOf)) (id other : ℕ) → IsLeastFree pins id
    → IsLeastFree pins other → id < other → ⊥
IsLeastFree-le pins id other is also below =
    false≢true (subst (λ (found : Option PinOf). IsSome found) is.free (also.least id below))

-- so there is one
pub IsLeastFree-one : (pins : List (ℕ × PinOf)) (id other : ℕ) → IsLeastFree pins id
    → IsLeastFree pins other → id ≡ other
IsLeastFree-one pins id other is also =
    omega (
      arith,
      IsLeastFree-le pins id other is also,
      IsLeastFree-le pins other id also is,
    )

-- a first pin that goes leaves those after it
pub without_pin-first : (id : ℕ) (pin : PinOf) (later : List (ℕ × PinOf))
    → without_pin id ((id, pin) ∷ later) ≡ later
without_pin-first id pin later =
    let same : is_at (nat_cmp id) id ≡ true = grind (arith, nat_tests) in
    ap (λ (same : Bool). if same then later else (id, pin) ∷ without_pin id later) same

-- a pin of a free id that comes and goes leaves the pins as they were
without_pin-with_pin : (id : ℕ) (pin : PinOf) (pins : List (ℕ × PinOf)) → pin_at pins id ≡ None
    → without_pin id (with_pin id pin pins) ≡ pins
without_pin-with_pin id pin [] free = without_pin-first id pin []
without_pin-with_pin id pin (first ∷ later) free =
    at (nat_cmp id first.0) refl free (without_pin-with_pin id pin later)
  where
    at : (order : Ordering) → nat_cmp id first.0 ≡ order
        → cond (is_eq order) (Some first.1) (pin_at later id) ≡ None
        → (pin_at later id ≡ None → without_pin id (with_pin id pin later) ≡ later)
        → without_pin id (match_ordering order ((id, pin) ∷ first ∷ later)
        ((first.0, pin) ∷ later) (first ∷ with_pin id pin later)) ≡ first ∷ later
    at Less is free rest = without_pin-first id pin (first ∷ later)
    at Equal is free rest = absurd (none-some first.1 (sym free))
    at Greater is free rest = rw is (ap (λ pins. first ∷ pins) (rest free))

-- contents are kept of a state with the same journal that holds the same
KeepsContents-held : (desc : DescOf) (old new : State) (contents : Contents)
    → new.journal ≡ old.journal → new.held ≡ old.held → KeepsContents desc old contents
    → KeepsContents desc new contents
KeepsContents-held desc old new contents journal held keeps = record {
  held = λ read. rw (held, journal) (keeps.held read);
  others = λ entry there. rw held (keeps.others entry there);
}

-- the reader pinned what a request is shown
module _ (old new : JournalOf) (items : List Item) (answer : PinnedOf)
    (kept : IsKept old.core.desc old) (steps : Steps old.core (Pins READER items) new.core)
    (is : IsPinnedOf old.core.desc old.core.state items answer)
    (contents : new.contents ≡ old.contents) where
  -- it has the id that is answered
  state : new.core.state ≡ pinned old.core.state READER answer.id
      (asked old.core.desc (entries_of old) items)
  state =
      steps.step.2
      ∙ ap (λ (id : ℕ). pinned old.core.state READER id
      (asked old.core.desc (entries_of old) items))
      (IsLeastFree-one old.core.state.pins steps.step.0 answer.id steps.step.1 is.id)

  -- nothing else has changed
  beside : IsBesidePin old answer.id new
  beside = record {
    versions = asked old.core.desc (entries_of old) items;
    free = is.id;
    desc = steps.desc;
    state = state;
    contents = contents;
  }

  -- contents are kept
  keeps : KeepsContents new.core.desc new.core.state new.contents
  keeps = rw (steps.desc, contents) (KeepsContents-held old.core.desc old.core.state
      new.core.state old.contents (ap (λ (state : State). state.journal) state)
      (ap (λ (state : State). state.held) state) kept.contents)

  -- the latest version of each partition may be read
  MayBeRead-latest : (key : Key)
      → MayBeRead new (latest old.core.desc (entries_of old) key)
  MayBeRead-latest key =
      let journal : entries_of new ≡ entries_of old =
      ap (λ (state : State). state.journal) state in
      record {
        good = steps.good;
        contents = keeps;
        hand = subst (λ (read : Input). IsAtHand new.core.desc (entries_of new)
            new.core.state.held read)
            (λ i. latest (steps.desc i) (journal i) key) (steps.good.held.current key);
      }

  -- what is answered are latest versions
  readable : All (MayBeRead new) (map version_shown answer.items)
  readable =
      let keys = flat_map (keys_shown old.core.desc (entries_of old)) items in
      let show : Key → PinItem = shown_item old.core.desc (entries_of old) in
      subst (λ (items : List PinItem). All (MayBeRead new) (map version_shown items))
      (sym is.items)
      (All-map (MayBeRead new) version_shown (map show keys)
      (All-map (λ (item : PinItem). MayBeRead new (version_shown item)) show keys
      (λ index default within. MayBeRead-latest (get_or keys index default))))

  pub IsPinnedIn-pin : IsPinOf new.core.state READER answer.id → IsPinnedIn old new answer
  IsPinnedIn-pin own = record { own = own; beside = beside; readable = readable }

-- and so it is of whatever is answered
pub IsPinnedIn-answer : {E : Type 0} (old new : JournalOf) (items : List Item)
    (answer : Result PinnedOf E) → IsKept old.core.desc old
    → IfOk answer (λ _. Steps old.core (Pins READER items) new.core)
    → IfOk answer (IsPinnedOf old.core.desc old.core.state items)
    → IfOk answer (λ pinned. IsPinOf new.core.state READER pinned.id)
    → new.contents ≡ old.contents → IfOk answer (IsPinnedIn old new)
IsPinnedIn-answer old new items (Ok pinned) kept steps is own contents =
    IsPinnedIn-pin old new items pinned kept steps is contents own
IsPinnedIn-answer old new items (Err _) kept steps is own contents = tt

-- versions that are held are held by a list that tells the same
pub SameKept-state : (old new : KeptListOf) → new ≡ old → SameKept old new
SameKept-state old new same = rw same record { entry = λ read. refl; newest = λ key. refl }

-- a pin of the reader ends, and nothing else came between
module _ (before old new : JournalOf) (id who : ℕ) (is : IsBesidePin before id old)
    (steps : Steps old.core (Unpins who id) new.core) (contents : new.contents ≡ old.contents) where
  -- no pin is left that was not there before
  pins-unpin : new.core.state.pins ≡ before.core.state.pins
  pins-unpin =
      ap (λ (state : State). state.pins) steps.step.1
      ∙ ap (λ (state : State). without_pin id state.pins) is.state
      ∙ without_pin-with_pin id (record { who = READER; versions = is.versions })
      before.core.state.pins is.free.free

  TellsAsBefore-unpinned : TellsAsBefore before new
  TellsAsBefore-unpinned =
      let state = steps.step.1 in
      record {
        core = record {
          desc = steps.desc ∙ is.desc;
          state = record {
            journal = ap (λ (state : State). state.journal) state
                ∙ ap (λ (state : State). state.journal) is.state;
            claims = ap (λ (state : State). state.claims) state
                ∙ ap (λ (state : State). state.claims) is.state;
            pins = pins-unpin;
            held = SameKept-state before.core.state.held new.core.state.held
                (ap (λ (state : State). state.held) state
                ∙ ap (λ (state : State). state.held) is.state);
          };
        };
        contents = contents ∙ is.contents;
      }

-- a pin of which something is so is there
pin-found : (P : PinOf → Type 0) (found : Option PinOf) → IsSomeAnd found P
    → (pin : PinOf) × (found ≡ Some pin)
pin-found P None is = absurd is
pin-found P (Some pin) is = (pin, refl)

-- once the pin of the reader has ended the journal tells what it told before it
pub TellsAsBefore-unpin : (before old new : JournalOf) (id : ℕ) → IsPinOf old.core.state READER id
    → ((pin : PinOf) → pin_at old.core.state.pins id ≡ Some pin
    → Steps old.core (Unpins pin.who id) new.core)
    → new.contents ≡ old.contents → IsBesidePin before id old → TellsAsBefore before new
TellsAsBefore-unpin before old new id own steps contents is =
    let found = pin-found (λ pin. pin.who ≡ READER) (pin_at old.core.state.pins id) own.found in
    TellsAsBefore-unpinned before old new id found.0.who is (steps found.0 found.1) contents
