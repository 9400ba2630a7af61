-- What a book needs that keeps, of each feed, only the greatest tick up to which a delivery of it
-- closed: it tells of each partition of the feed's tables whether that is closed.
use Rattle.std.proofs.Common.{◌≡◌, ◌∙◌, ℕ, ◌≤◌, List, [], ◌∷◌, ◌++◌, map, refl, sym, ap, arith}
use Rattle.std.proofs.Common.{inl, inr}
use Rattle.std.specs.Prelude.{Bool, true, false, Option, Some, None, ◌&&◌, ◌||◌, ◌==◌, filter, fold}
use Rattle.std.specs.Prelude.{max, nat_le, nat_lt, slice_get, if◌then◌else◌}
use Rattle.std.specs.List.{list_any}
use Rattle.std.proofs.lemmas.Bool.{and_parts, cases_Bool, false≢true, lt-leb, ltb-true}
use Rattle.std.proofs.lemmas.Bool.Decides.{nat_tests}
use Rattle.std.proofs.lemmas.List.Elements.{filter-append, filter_agree}
use Rattle.std.proofs.lemmas.List.Sums.{fold-append}
use Rattle.std.proofs.lemmas.List.{map-append}
use Rattle.std.proofs.Math.Bool.{or-false}
use Rattle.desc_types.specs.declared.table.Key.{Key}
use Rattle.desc_types.specs.declared.delivery.DRow.{DRow}
use Rattle.desc_types.specs.Deliveries.{DeliveryOf}
use Rattle.desc_types.specs.Descriptions.{DescOf}
use Rattle.desc_types.specs.Tables.{TableOf}
use Rattle.desc_types.specs.KindValues.{KindOf, Raw, Filter, Group, Join}
use Rattle.desc_types.specs.Sources.{width_of}
use Rattle.partition_map.specs.Partitions.{start_of, end_of}
use Rattle.view_meaning.specs.Journal.{row_tick}
use Rattle.view_meaning.specs.Closing.{is_closed_in, is_fed, is_fed_by, is_for, part_end}
use Rattle.view_meaning.specs.SetAside.{is_late}
use Rattle.view_meaning.specs.RawValues.{covers_tick, holds_cells, lies_in}
use Rattle.view_meaning.proofs.ClosedLemmas.{is_late-closed}

-- the greatest of the numbers of those elements that pass a test, and 0 if none does
abbrev pub greatest_of : {X : Type 0} → (own : X → Bool) → (number : X → ℕ) → List X → ℕ
greatest_of own number xs = fold max 0 (map number (filter own xs))

-- one element more raises it to its own number if it passes
pub greatest_of-push : {X : Type 0} (own : X → Bool) (number : X → ℕ) (xs : List X) (x : X)
    → greatest_of own number (xs ++ x ∷ [])
    ≡ (if own x then max (greatest_of own number xs) (number x) else greatest_of own number xs)
greatest_of-push {X = X} own number xs x =
    ap (λ (passed : List X). fold max 0 (map number passed)) (filter-append own xs (x ∷ []))
    ∙ ap (λ (numbers : List ℕ). fold max 0 numbers)
    (map-append number (filter own xs) (filter own (x ∷ [])))
    ∙ fold-append max 0 (map number (filter own xs)) (map number (filter own (x ∷ [])))
    ∙ one (own x)
  where
    one : (passes : Bool)
        → fold max (greatest_of own number xs) (map number (if passes then x ∷ [] else []))
        ≡ (if passes then max (greatest_of own number xs) (number x) else greatest_of own number xs)
    one true = refl
    one false = refl

-- one of two numbers reaches a bound exactly if the greater does, whatever else may be so
nat_le-max : (bound number least : ℕ) (rest : Bool)
    → ((nat_le bound number || rest) || nat_le bound least)
    ≡ (rest || nat_le bound (max least number))
nat_le-max bound number least true = grind (arith, nat_tests)
nat_le-max bound number least false = grind (arith, nat_tests)

-- a number reaches a bound, or one that an element has does, exactly if the greatest of them does
nat_le-fold_max : {X : Type 0} (own : X → Bool) (number : X → ℕ) (bound least : ℕ) (xs : List X)
    → (list_any (λ x. own x && nat_le bound (number x)) xs || nat_le bound least)
    ≡ nat_le bound (fold max least (map number (filter own xs)))
nat_le-fold_max own number bound least [] = refl
nat_le-fold_max own number bound least (x ∷ xs) =
    elim (cases_Bool (own x)) [
      | inl passes ↦ rw passes
          (nat_le-max bound (number x) least
          (list_any (λ x. own x && nat_le bound (number x)) xs)
          ∙ nat_le-fold_max own number bound (max least (number x)) xs)
      | inr fails ↦ rw fails (nat_le-fold_max own number bound least xs)
    ]

-- the tick up to which a delivery closes
abbrev pub closes_of : DeliveryOf → ℕ
closes_of delivery = delivery.closes

-- a partition is closed exactly if the greatest tick up to which a delivery of its feed closed is
-- not before its end
pub is_closed_in-greatest : (desc : DescOf) (accepted : List DeliveryOf) (key : Key)
    → 1 ≤ part_end desc key
    → is_closed_in desc accepted key
    ≡ nat_le (part_end desc key) (greatest_of (is_for desc key) closes_of accepted)
is_closed_in-greatest desc accepted key some =
    let closed = is_closed_in desc accepted key in
    sym (or-false closed)
    ∙ ap (λ (never : Bool). closed || never) (sym (lt-leb (part_end desc key) 0 some))
    ∙ nat_le-fold_max (is_for desc key) closes_of (part_end desc key) 0 accepted

-- a table of a feed is fed by that feed alone
is_fed_by-feed : (feed other : ℕ) (found : Option TableOf) → is_fed_by feed found ≡ true
    → is_fed_by other found ≡ (other == feed)
is_fed_by-feed feed other None fed = absurd (false≢true fed)
is_fed_by-feed feed other (Some table) fed = at_kind table.kind fed
  where
    at_kind : (kind : KindOf) → is_fed feed kind ≡ true → is_fed other kind ≡ (other == feed)
    at_kind (Raw its_feed time) fed = grind (arith, nat_tests)
    at_kind (Filter src conds keep) fed = absurd (false≢true fed)
    at_kind (Group src keys aggs) fed = absurd (false≢true fed)
    at_kind (Join left right pairs) fed = absurd (false≢true fed)

-- whether a delivery is of a feed
abbrev pub is_of : (feed : ℕ) → DeliveryOf → Bool
is_of feed delivery = delivery.feed == feed

-- a delivery is for a partition of a feed's table exactly if it is of the feed
pub is_for-feed : (desc : DescOf) (key : Key) (feed : ℕ)
    → is_fed_by feed (slice_get desc.tables key.table) ≡ true
    → (delivery : DeliveryOf) → is_for desc key delivery ≡ is_of feed delivery
is_for-feed desc key feed fed delivery =
    is_fed_by-feed feed delivery.feed (slice_get desc.tables key.table) fed

-- what is greatest of a partition's deliveries is greatest of its feed's
pub greatest_of-feed : (desc : DescOf) (key : Key) (feed : ℕ) (number : DeliveryOf → ℕ)
    (deliveries : List DeliveryOf) → is_fed_by feed (slice_get desc.tables key.table) ≡ true
    → greatest_of (is_for desc key) number deliveries ≡ greatest_of (is_of feed) number deliveries
greatest_of-feed desc key feed number deliveries fed =
    ap (λ (own : List DeliveryOf). fold max 0 (map number own))
    (filter_agree (is_for desc key) (is_of feed) (is_for-feed desc key feed fed) deliveries)

-- a partition of a feed's table is closed exactly if the feed closed up to its end
pub is_closed_in-feed : (desc : DescOf) (accepted : List DeliveryOf) (key : Key) (feed : ℕ)
    → 1 ≤ part_end desc key → is_fed_by feed (slice_get desc.tables key.table) ≡ true
    → is_closed_in desc accepted key
    ≡ nat_le (part_end desc key) (greatest_of (is_of feed) closes_of accepted)
is_closed_in-feed desc accepted key feed some fed =
    is_closed_in-greatest desc accepted key some
    ∙ ap (nat_le (part_end desc key)) (greatest_of-feed desc key feed closes_of accepted fed)

-- a partition that covers a tick ends after the first one
end_of-covers : (width part : ℕ) (tick : Option ℕ) → covers_tick width part tick ≡ true
    → 1 ≤ end_of width part
end_of-covers width part None covers = absurd (false≢true covers)
end_of-covers width part (Some tick) covers =
    let begins = nat_le (start_of width part) tick in
    let before = (and_parts begins (nat_lt tick (end_of width part)) covers).1 in
    omega (arith, ltb-true tick (end_of width part) before)

-- so does one that a row lies in
pub part_end-lies_in : (desc : DescOf) (key : Key) (row : DRow) → lies_in desc key row ≡ true
    → 1 ≤ part_end desc key
part_end-lies_in desc key row lies =
    let found = slice_get desc.tables key.table in
    at_table found
    (and_parts (row.table == key.table) (holds_cells found key.part row.cells) lies).1
  where
    at_table : (found : Option TableOf) → holds_cells found key.part row.cells ≡ true
        → 1 ≤ end_of (width_of found) key.part
    at_table None holds = absurd (false≢true holds)
    at_table (Some table) holds =
        end_of-covers table.width key.part (row_tick table.kind row.cells) holds

-- a row that lies in such a partition is late exactly if the feed closed up to its end
pub is_late-feed : (desc : DescOf) (before : List DeliveryOf) (key : Key) (row : DRow) (feed : ℕ)
    → lies_in desc key row ≡ true → is_fed_by feed (slice_get desc.tables key.table) ≡ true
    → is_late desc before row
    ≡ nat_le (part_end desc key) (greatest_of (is_of feed) closes_of before)
is_late-feed desc before key row feed lies fed =
    is_late-closed desc before key row lies
    ∙ is_closed_in-feed desc before key feed (part_end-lies_in desc key row lies) fed
