-- Pins as one more is made and one goes: who has which id, what is pinned, and that ids stay in
-- order. Callers take the lemmas on `with_pin` and `without_pin`.
use Rattle.std.proofs.Common.{◌≡◌, ◌∙◌, ℕ, List, [], ◌∷◌, cond, get_or, refl, sym, ap, arith}
use Rattle.std.specs.Prelude.{Bool, true, false, ◌||◌, ◌==◌, Option, Some, None, if◌then◌else◌}
use Rattle.std.specs.BTreeMap.{insert_entry, is_at}
use Rattle.std.specs.Cmp.{eq_by_cmp_equiv}
use Rattle.std.specs.List.{AllByRecursion}
use Rattle.std.specs.List.Sorted.{IsStrictlySortedBy}
use Rattle.std.specs.Map.{keys_of, lookup}
use Rattle.std.specs.Ordering.{is_eq, match_ordering, nat_cmp}
use Rattle.std.specs.declared.cmp.Ordering.{Ordering}
use Rattle.std.specs.declared.cmp.Ordering.TheVariants.{Less, Equal, Greater}
use Rattle.std.proofs.lemmas.Bool.Decides.{nat_tests}
use Rattle.std.proofs.lemmas.Cmp.{nat_cmp_total}
use Rattle.std.proofs.lemmas.List.Folds.{list_any_none}
use Rattle.std.proofs.lemmas.Map.{lookup-remove_entry}
use Rattle.std.proofs.lemmas.Map.Entries.{lookup_from_place}
use Rattle.std.proofs.lemmas.Map.Keys.{IsDistinct-from_sorted}
use Rattle.std.proofs.lemmas.Option.{none-some, slice_get-get_or}
use Rattle.query_pin.specs.declared.input.Input.{Input}
use Rattle.query_pin.specs.declared.readers.Reader.{Reader}
use Rattle.query_pin.specs.Inputs.{is_read}
use Rattle.query_pin.specs.Pins.{AreInOrder, IsPinBook, PinOf, is_pinned, pin_at, versions_at}
use Rattle.query_pin.specs.Pins.{versions_of, with_pin, without_pin}
use Rattle.query_pin.specs.Readers.{TellsIfRead}

-- numbers compare as equal exactly if they are the same
is_eq-nat_cmp : (id other : ℕ) → is_eq (nat_cmp id other) ≡ (id == other)
is_eq-nat_cmp id other = grind (arith, nat_tests)

-- of three tests of which one holds, two may change places
or-swap : (one other rest : Bool) → (one || (other || rest)) ≡ (other || (one || rest))
or-swap true true rest = refl
or-swap true false rest = refl
or-swap false other rest = refl

-- what is found after an entry was put in: that one, or what was found before
lookup-insert_entry : {X : Type 0} (entries : List (ℕ × X)) (id : ℕ) (new : X) (other : ℕ)
    → lookup (is_at (nat_cmp other)) (insert_entry nat_cmp entries id new)
    ≡ cond (is_eq (nat_cmp other id)) (Some new) (lookup (is_at (nat_cmp other)) entries)
lookup-insert_entry [] id new other = refl
lookup-insert_entry (first ∷ later) id new other =
    at (nat_cmp id first.0) refl (lookup-insert_entry later id new other)
  where
    at : (order : Ordering) → nat_cmp id first.0 ≡ order
        → lookup (is_at (nat_cmp other)) (insert_entry nat_cmp later id new)
        ≡ cond (is_eq (nat_cmp other id)) (Some new) (lookup (is_at (nat_cmp other)) later)
        → lookup (is_at (nat_cmp other)) (match_ordering order ((id, new) ∷ first ∷ later)
        ((first.0, new) ∷ later) (first ∷ insert_entry nat_cmp later id new))
        ≡ cond (is_eq (nat_cmp other id)) (Some new)
        (lookup (is_at (nat_cmp other)) (first ∷ later))
    at Less is rest = refl
    at Equal is rest = grind (arith, nat_tests, is)
    at Greater is rest = rw rest (grind (arith, nat_tests, is))

-- with one more pin an id has that one, or the pin that it had
pub pin_at-with_pin : (id : ℕ) (pin : PinOf) (pins : List (ℕ × PinOf)) (other : ℕ)
    → pin_at (with_pin id pin pins) other
    ≡ (if other == id then Some pin else pin_at pins other)
pin_at-with_pin id pin pins other =
    lookup-insert_entry pins id pin other
    ∙ ap (λ (here : Bool). cond here (Some pin) (pin_at pins other)) (is_eq-nat_cmp other id)

-- without the pin of an id that one is free, and any other has the pin that it had
pub pin_at-without_pin : (id : ℕ) (pins : List (ℕ × PinOf)) (other : ℕ) → AreInOrder pins
    → pin_at (without_pin id pins) other ≡ (if id == other then None else pin_at pins other)
pin_at-without_pin id pins other ordered =
    lookup-remove_entry (eq_by_cmp_equiv nat_cmp_total) (is_at (nat_cmp id))
    (λ first second here. grind (arith, nat_tests)) other pins
    (IsDistinct-from_sorted nat_cmp (keys_of pins) ordered)
    ∙ ap (λ (here : Bool). cond here None (pin_at pins other)) (is_eq-nat_cmp id other)

-- one more pin pins what it keeps, beside what was pinned
pub is_pinned-with_pin : (id : ℕ) (pin : PinOf) (pins : List (ℕ × PinOf)) (read : Input)
    → pin_at pins id ≡ None
    → is_pinned (with_pin id pin pins) read ≡ (is_read pin.versions read || is_pinned pins read)
is_pinned-with_pin id pin [] read free = refl
is_pinned-with_pin id pin (first ∷ later) read free =
    at (nat_cmp id first.0) free (is_pinned-with_pin id pin later read)
  where
    at : (order : Ordering) → cond (is_eq order) (Some first.1) (pin_at later id) ≡ None
        → (pin_at later id ≡ None → is_pinned (with_pin id pin later) read
        ≡ (is_read pin.versions read || is_pinned later read))
        → is_pinned (match_ordering order ((id, pin) ∷ first ∷ later)
        ((first.0, pin) ∷ later) (first ∷ with_pin id pin later)) read
        ≡ (is_read pin.versions read || (is_read first.1.versions read || is_pinned later read))
    at Less free rest = refl
    at Equal free rest = absurd (none-some first.1 (sym free))
    at Greater free rest =
        rw (rest free) (or-swap (is_read first.1.versions read) (is_read pin.versions read)
        (is_pinned later read))

-- what is pinned the pin of an id keeps, or it is pinned without that one
pub is_pinned-without_pin : (id : ℕ) (pins : List (ℕ × PinOf)) (read : Input)
    → is_pinned pins read
    ≡ (is_read (versions_at pins id) read || is_pinned (without_pin id pins) read)
is_pinned-without_pin id [] read = refl
is_pinned-without_pin id (first ∷ later) read =
    each (is_at (nat_cmp id) first.0) (is_pinned-without_pin id later read)
  where
    each : (here : Bool) → is_pinned later read
        ≡ (is_read (versions_at later id) read || is_pinned (without_pin id later) read)
        → (is_read first.1.versions read || is_pinned later read)
        ≡ (is_read (versions_of (cond here (Some first.1) (pin_at later id))) read
        || is_pinned (cond here later (first ∷ without_pin id later)) read)
    each true rest = refl
    each false rest =
        rw rest (or-swap (is_read first.1.versions read) (is_read (versions_at later id) read)
        (is_pinned (without_pin id later) read))

-- what is so of each id, and of one more, is so of each with that one
each-with_pin : (P : ℕ → Type 0) (id : ℕ) (pin : PinOf) (pins : List (ℕ × PinOf)) → P id
    → AllByRecursion P (keys_of pins) → AllByRecursion P (keys_of (with_pin id pin pins))
each-with_pin P id pin [] own each = (own, tt)
each-with_pin P id pin (first ∷ later) own each =
    at (nat_cmp id first.0) (each-with_pin P id pin later own each.1)
  where
    at : (order : Ordering) → AllByRecursion P (keys_of (with_pin id pin later))
        → AllByRecursion P (keys_of (match_ordering order ((id, pin) ∷ first ∷ later)
        ((first.0, pin) ∷ later) (first ∷ with_pin id pin later)))
    at Less rest = (own, each)
    at Equal rest = each
    at Greater rest = (each.0, rest)

-- what is so of each id is so of each without a pin
each-without_pin : (P : ℕ → Type 0) (id : ℕ) (pins : List (ℕ × PinOf))
    → AllByRecursion P (keys_of pins) → AllByRecursion P (keys_of (without_pin id pins))
each-without_pin P id [] each = each
each-without_pin P id (first ∷ later) each =
    at (is_at (nat_cmp id) first.0) (each-without_pin P id later each.1)
  where
    at : (here : Bool) → AllByRecursion P (keys_of (without_pin id later))
        → AllByRecursion P (keys_of (cond here later (first ∷ without_pin id later)))
    at true rest = each.1
    at false rest = (each.0, rest)

-- an id before others is before those that come after them
each-before : (id first : ℕ) (later : List ℕ) → nat_cmp id first ≡ Less
    → AllByRecursion (λ other. nat_cmp first other ≡ Less) later
    → AllByRecursion (λ other. nat_cmp id other ≡ Less) later
each-before id first [] before each = each
each-before id first (other ∷ later) before each =
    (nat_cmp_total.trans id first other before each.0, each-before id first later before each.1)

-- the ids stay in order as one more pin is made
pub AreInOrder-with_pin : (id : ℕ) (pin : PinOf) (pins : List (ℕ × PinOf)) → AreInOrder pins
    → AreInOrder (with_pin id pin pins)
unfolding IsStrictlySortedBy
AreInOrder-with_pin id pin [] ordered = (tt, tt)
AreInOrder-with_pin id pin (first ∷ later) ordered =
    at (nat_cmp id first.0) refl (AreInOrder-with_pin id pin later ordered.1)
  where
    at : (order : Ordering) → nat_cmp id first.0 ≡ order → AreInOrder (with_pin id pin later)
        → AreInOrder (match_ordering order ((id, pin) ∷ first ∷ later)
        ((first.0, pin) ∷ later) (first ∷ with_pin id pin later))
    at Less is rest = ((is, each-before id first.0 (keys_of later) is ordered.0), ordered)
    at Equal is rest = ordered
    at Greater is rest = (
      each-with_pin (λ other. nat_cmp first.0 other ≡ Less) id pin later
          (grind (arith, nat_tests)) ordered.0,
      rest,
    )

-- and as one goes
pub AreInOrder-without_pin : (id : ℕ) (pins : List (ℕ × PinOf)) → AreInOrder pins
    → AreInOrder (without_pin id pins)
unfolding IsStrictlySortedBy
AreInOrder-without_pin id [] ordered = ordered
AreInOrder-without_pin id (first ∷ later) ordered =
    at (is_at (nat_cmp id) first.0) (AreInOrder-without_pin id later ordered.1)
  where
    at : (here : Bool) → AreInOrder (without_pin id later)
        → AreInOrder (cond here later (first ∷ without_pin id later))
    at true rest = ordered.1
    at false rest =
        (each-without_pin (λ other. nat_cmp first.0 other ≡ Less) id later ordered.0, rest)

-- a version that the pin of an id keeps is pinned
is_pinned-some : (pins : List (ℕ × PinOf)) (id : ℕ) (read : Input)
    → is_read (versions_at pins id) read ≡ true → is_pinned pins read ≡ true
is_pinned-some pins id read held = rw (is_pinned-without_pin id pins read, held) refl

-- a version that the pin of no id keeps is not
is_pinned-none : (pins : List (ℕ × PinOf)) (read : Input) → AreInOrder pins
    → ((id : ℕ) → is_read (versions_at pins id) read ≡ false) → is_pinned pins read ≡ false
is_pinned-none pins read ordered none =
    list_any_none (λ (entry : ℕ × PinOf). is_read entry.1.versions read) pins
    (λ index default within.
    let entry = get_or pins index default in
    ap (λ (at : Option PinOf). is_read (versions_of at) read)
    (sym (lookup_from_place (eq_by_cmp_equiv nat_cmp_total) pins index entry.0 entry.1
    (IsDistinct-from_sorted nat_cmp (keys_of pins) ordered)
    (slice_get-get_or pins index default within)))
    ∙ none entry.0)

-- what the readers of pins tell of a version is whether it is pinned
pub TellsIfRead-is_pinned : (pins : List (ℕ × PinOf)) (readers : List Reader) (read : Input)
    (answer : Bool) → IsPinBook pins readers → TellsIfRead readers read answer
    → answer ≡ is_pinned pins read
TellsIfRead-is_pinned pins readers read true book tells =
    let held = tells.some refl in
    sym (is_pinned-some pins held.0 read
    (sym (book.exact (record { read = read; id = held.0 })) ∙ held.1))
TellsIfRead-is_pinned pins readers read false book tells =
    sym (is_pinned-none pins read book.ordered (λ id.
    sym (book.exact (record { read = read; id = id })) ∙ tells.none refl id))
