-- Pins as the core takes and drops them, and what of a request is shown.
use Rattle.std.proofs.Common.{◌≡◌, ◌∙◌, ℕ, ◌+◌, ◌-◌, ◌<◌, ◌≤◌, List, [], ◌∷◌, ◌++◌, Bool, true, false}
use Rattle.std.proofs.Common.{Option, Some, append_assoc, ap, arith, map, max, min, refl, sym}
use Rattle.std.specs.Prelude.{IsSome, IsSomeAnd, None, filter, flat_map, nat_le, nat_lt}
use Rattle.std.specs.List.{range_with_len}
use Rattle.std.proofs.lemmas.Bool.{and_from, false≢true, le-leb, lt-ltb, ltb-true}
use Rattle.std.proofs.lemmas.Bool.Decides.{nat_tests}
use Rattle.std.proofs.lemmas.List.{map-append}
use Rattle.std.proofs.lemmas.List.FromFn.{filter_of_map_range_with_len_more}
use Rattle.std.proofs.lemmas.Simd.{map-map}
use Rattle.partition_map.specs.Partitions.{end_of, has, is_met, parts_met, start_of}
use Rattle.partition_map.specs.Time.{END}
use Rattle.partition_map.proofs.NumberLemmas.{has-parts_met, has-range_with_len}
use Rattle.desc_types.specs.declared.table.Key.{Key}
use Rattle.desc_types.specs.Descriptions.{DescOf}
use Rattle.desc_types.specs.Sources.{table_width}
use Rattle.view_meaning.specs.declared.journal.Entry.{Entry}
use Rattle.view_meaning.specs.declared.request.Item.{Item}
use Rattle.view_meaning.specs.declared.request.PinItem.{PinItem}
use Rattle.view_meaning.specs.Partitions.{is_part}
use Rattle.view_meaning.specs.Shown.{keys_shown}
use Rattle.query_pin.specs.declared.input.Input.{Input}
use Rattle.query_pin.specs.Pins.{IsLeastFree, PinOf, with_pin}
use Rattle.query_pin.specs.Requests.{is_bad_range}
use Rattle.machine_meaning.specs.Events.{Pins, Step, asked}
use Rattle.machine_meaning.specs.States.{State}
use Rattle.claim_core.specs.Cores.{items_of, shown_item, version_shown}

-- a pin that is there is one
pub some_pin : (found : Option PinOf) → IsSome found → (pin : PinOf) × (found ≡ Some pin)
some_pin None some = absurd (false≢true some)
some_pin (Some pin) some = (pin, refl)

-- a pin that was found was made by the one whom it names
pub IsSomeAnd-who : (found : Option PinOf) (pin : PinOf) → found ≡ Some pin
    → IsSomeAnd found (λ (own : PinOf). own.who ≡ pin.who)
IsSomeAnd-who found pin is = rw is refl

-- a partition that shares a tick with a span in time is one of its table
is_met-part : (width from to part : ℕ) → to ≤ END → is_met width from to part ≡ true
    → is_met width 0 END part ≡ true
is_met-part width from to part in_time met =
    let shared = ltb-true (max (start_of width part) from) (min (end_of width part) to) met in
    lt-ltb (max (start_of width part) 0) (min (end_of width part) END) (omega (arith, shared))

-- so is a partition of a run that an item asks for
pub is_part-asked : (desc : DescOf) (item : Item) (first count part : ℕ)
    → item.to ≤ END
    → parts_met (table_width desc item.table) item.from item.to ≡ range_with_len first count
    → first ≤ part → part < first + count
    → is_part desc (record { table = item.table; part = part }) ≡ true
is_part-asked desc item first count part in_time is_run from_first below_end =
    let width = table_width desc item.table in
    is_met-part width item.from item.to part in_time
    (sym (has-parts_met width item.from item.to part)
    ∙ ap (λ (parts : List ℕ). has parts part) is_run
    ∙ has-range_with_len first count part
    ∙ and_from (nat_le first part) (nat_lt part (first + count)) (le-leb first part from_first)
    (lt-ltb part (first + count) below_end))

-- what is told of the keys that pass, in a run of numbers from the first one up to this one
abbrev pub told_to : {X : Type 0} → (test : Key → Bool) → (told : Key → X) → (key_at : ℕ → Key)
    → (first part : ℕ) → List X
told_to test told key_at first part =
    map told (filter test (map key_at (range_with_len first (part - first))))

-- one number more of the run is one more to be told, if its key passes
told_to-push : {X : Type 0} (test : Key → Bool) (told : Key → X) (key_at : ℕ → Key)
    (first part : ℕ)
    → first ≤ part
    → told_to test told key_at first (part + 1)
    ≡ told_to test told key_at first part ++ map told (filter test (key_at part ∷ []))
told_to-push test told key_at first part from_first =
    let keys : ℕ → List Key = λ count. filter test (map key_at (range_with_len first count)) in
    let count : part + 1 - first ≡ part - first + 1 = omega arith in
    ap (λ (count : ℕ). map told (keys count)) count
    ∙ ap (map told)
    (filter_of_map_range_with_len_more test key_at first (part - first) part (omega arith))
    ∙ map-append told (keys (part - first)) (filter test (key_at part ∷ []))

-- so it is with a list that is told after another
pub told_to-step : {X : Type 0} (test : Key → Bool) (told : Key → X) (key_at : ℕ → Key)
    (first part : ℕ) (before so_far next : List X)
    → first ≤ part
    → so_far ≡ before ++ told_to test told key_at first part
    → next ≡ so_far ++ map told (filter test (key_at part ∷ []))
    → next ≡ before ++ told_to test told key_at first (part + 1)
told_to-step test told key_at first part before so_far next from_first begun is_next =
    let added = map told (filter test (key_at part ∷ [])) in
    is_next
    ∙ ap (λ so_far. so_far ++ added) begun
    ∙ append_assoc before (told_to test told key_at first part) added
    ∙ ap (λ all. before ++ all) (sym (told_to-push test told key_at first part from_first))

-- an item that has no bad range ends in time
pub item-in_time : (item : Item) → is_bad_range item ≡ false → item.to ≤ END
item-in_time item fine = grind (arith, nat_tests, fine)

-- the versions of which an answer tells are those that the request is shown
pub map-version_shown : (desc : DescOf) (journal : List Entry) (items : List Item)
    → map version_shown (items_of desc journal items) ≡ asked desc journal items
map-version_shown desc journal items =
    map-map version_shown (shown_item desc journal) (flat_map (keys_shown desc journal) items)

-- what is told for each item, one item after the other
abbrev pub told_of : DescOf → List Entry → List Item → List PinItem
told_of desc journal items = flat_map (λ (item : Item).
    map (shown_item desc journal) (keys_shown desc journal item)) items

-- that is what a pin answers
pub told_of-same : (desc : DescOf) (journal : List Entry) (items : List Item)
    → told_of desc journal items ≡ items_of desc journal items
told_of-same desc journal [] = refl
told_of-same desc journal (item ∷ items) =
    let told = shown_item desc journal in
    ap (λ later. map told (keys_shown desc journal item) ++ later)
    (told_of-same desc journal items)
    ∙ sym (map-append told (keys_shown desc journal item)
    (flat_map (keys_shown desc journal) items))

-- a pin of what a request is shown, under the least free id, is an event
pub Step-pins : (desc : DescOf) (old : State) (who id : ℕ) (request : List Item)
    (items : List PinItem) (versions : List Input) (pins : List (ℕ × PinOf))
    → IsLeastFree old.pins id → items ≡ items_of desc old.journal request
    → versions ≡ map version_shown items
    → pins ≡ with_pin id (record { who = who; versions = versions }) old.pins
    → Step desc old (Pins who request) (record old { pins = pins })
Step-pins desc old who id request items versions pins free told are is =
    let shown : versions ≡ asked desc old.journal request =
    are ∙ ap (map version_shown) told ∙ map-version_shown desc old.journal request in
    (id, free, rw (is, shown) refl)
