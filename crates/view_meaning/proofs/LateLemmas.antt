-- Which partition a row is for, and what its name is. If it lies in a partition that is known, take
-- the lemmas on `lies_in`; if a program looked for the partition, take those on `found`.
use Rattle.std.proofs.Common.{◌≡◌, ◌∙◌, ℕ, ◌+◌, ◌-◌, ◌/◌, ◌<◌, ◌≤◌, List, [], ◌∷◌, get_or, map}
use Rattle.std.proofs.Common.{refl, sym, ap, arith, inl, inr}
use Rattle.std.specs.Prelude.{Bool, true, false, Option, Some, None, ◌&&◌, ◌==◌, nat_eq, nat_le}
use Rattle.std.specs.Prelude.{nat_lt, option_to_list, slice_get}
use Rattle.std.specs.List.{list_any, range_with_len}
use Rattle.std.proofs.lemmas.Bool.{and_parts, eq-eqb, eqb-true, false≢true, leb-true, ltb-true}
use Rattle.std.proofs.lemmas.Bool.{cases_Bool, or_left}
use Rattle.std.proofs.lemmas.Bool.Decides.{nat_tests}
use Rattle.std.proofs.lemmas.List.Folds.{list_any_none}
use Rattle.depot_cell.specs.declared.cell.Cell.{Cell}
use Rattle.desc_types.specs.declared.table.Key.{Key}
use Rattle.desc_types.specs.declared.delivery.DRow.{DRow}
use Rattle.desc_types.specs.Deliveries.{DeliveryOf}
use Rattle.desc_types.specs.Descriptions.{DescOf}
use Rattle.desc_types.specs.Tables.{TableOf}
use Rattle.partition_map.specs.Time.{END}
use Rattle.partition_map.specs.Partitions.{start_of, end_of, has, is_covered, is_met}
use Rattle.partition_map.proofs.ListLemmas.{filter-none}
use Rattle.partition_map.proofs.NumberLemmas.{has-parts_met}
use Rattle.partition_map.proofs.PartitionLemmas.{is_covered-quotient, parts_met-run}
use Rattle.view_meaning.specs.Partitions.{is_among, is_key, key_of}
use Rattle.view_meaning.specs.Journal.{row_tick}
use Rattle.view_meaning.specs.Closing.{is_closed_in}
use Rattle.view_meaning.specs.SetAside.{parts_covering, parts_at_tick, parts_of, keys_of, is_late}
use Rattle.view_meaning.specs.SetAside.{aside_at, named}
use Rattle.view_meaning.specs.RawValues.{covers_tick, holds_cells, lies_in}
use Rattle.view_meaning.proofs.ListLemmas.{list_any-agree, list_any-map}

-- of a tick in time the partition that covers it is found by division
pub parts_covering-div : (width tick : ℕ) → 1 ≤ width → tick < END
    → parts_covering width tick ≡ tick / width ∷ []
unfolding parts_covering
parts_covering-div width tick some in_time =
    let last : tick + 1 - 1 ≡ tick = omega arith in
    let one : tick / width - tick / width + 1 ≡ 1 = omega arith in
    parts_met-run width tick (tick + 1) some (omega arith) (omega arith)
    ∙ ap (λ (last : ℕ). range_with_len (tick / width) (last / width - tick / width + 1)) last
    ∙ ap (λ (many : ℕ). range_with_len (tick / width) many) one

-- a partition that shares a tick with a span of one tick covers that
is_met-covered : (width part tick : ℕ)
    → is_met width tick (tick + 1) part ≡ is_covered width part tick
is_met-covered width part tick = grind (arith, nat_tests)

-- a partition is among those that cover a tick exactly if it covers the tick
has-parts_covering : (width part tick : ℕ)
    → has (parts_covering width tick) part ≡ is_covered width part tick
unfolding parts_covering
has-parts_covering width part tick =
    has-parts_met width tick (tick + 1) part ∙ is_met-covered width part tick

-- a tick that no partition covers is in none
parts_covering-none : (width tick : ℕ) → ((part : ℕ) → is_covered width part tick ≡ false)
    → parts_covering width tick ≡ []
unfolding parts_covering
parts_covering-none width tick none =
    let all = range_with_len 0 (tick + 1) in
    filter-none (is_met width tick (tick + 1)) all (λ index default _.
    is_met-covered width (get_or all index default) tick ∙ none (get_or all index default))

-- no partition covers a tick after the end of time
pub parts_covering-after : (width tick : ℕ) → END ≤ tick → parts_covering width tick ≡ []
parts_covering-after width tick after =
    parts_covering-none width tick (λ part. grind (arith, nat_tests))

-- no partition but one covers a tick
parts_covering-covered : (width part tick : ℕ) → is_covered width part tick ≡ true
    → parts_covering width tick ≡ part ∷ []
parts_covering-covered width part tick covers =
    let begin = start_of width part in
    let both = and_parts (nat_le begin tick) (nat_lt tick (end_of width part)) covers in
    let begins = leb-true begin tick both.0 in
    let before = ltb-true tick (end_of width part) both.1 in
    parts_covering-div width tick (omega arith) (omega arith)
    ∙ ap (λ (part : ℕ). part ∷ []) (sym (is_covered-quotient width part tick covers))

-- no partition but one has a tick that may be there
parts_at_tick-covers : (width part : ℕ) (tick : Option ℕ) → covers_tick width part tick ≡ true
    → parts_at_tick width tick ≡ part ∷ []
parts_at_tick-covers width part None covers = absurd (false≢true covers)
parts_at_tick-covers width part (Some tick) covers = parts_covering-covered width part tick covers

-- a tick that may be there is in no partition if none covers it
parts_at_tick-none : (width : ℕ) (tick : Option ℕ)
    → ((part : ℕ) → covers_tick width part tick ≡ false) → parts_at_tick width tick ≡ []
parts_at_tick-none width None none = refl
parts_at_tick-none width (Some tick) none = parts_covering-none width tick none

-- cells that lie in a partition of a table lie in no other
parts_of-holds : (found : Option TableOf) (part : ℕ) (cells : List Cell)
    → holds_cells found part cells ≡ true → parts_of found cells ≡ part ∷ []
parts_of-holds None part cells holds = absurd (false≢true holds)
parts_of-holds (Some table) part cells holds =
    parts_at_tick-covers table.width part (row_tick table.kind cells) holds

-- cells that lie in no partition of a table are for none
parts_of-none : (found : Option TableOf) (cells : List Cell)
    → ((part : ℕ) → holds_cells found part cells ≡ false) → parts_of found cells ≡ []
parts_of-none None cells none = refl
parts_of-none (Some table) cells none =
    parts_at_tick-none table.width (row_tick table.kind cells) none

-- the partition that a row is for, by number, in a list
abbrev pub parts_for : DescOf → DRow → List ℕ
parts_for desc row = parts_of (slice_get desc.tables row.table) row.cells

-- a row that lies in a partition is of its table
table-lies_in : (desc : DescOf) (key : Key) (row : DRow) → lies_in desc key row ≡ true
    → row.table ≡ key.table
table-lies_in desc key row lies =
    let held = holds_cells (slice_get desc.tables key.table) key.part row.cells in
    eqb-true row.table key.table (and_parts (row.table == key.table) held lies).0

-- and for that partition
parts_for-lies_in : (desc : DescOf) (key : Key) (row : DRow) → lies_in desc key row ≡ true
    → parts_for desc row ≡ key.part ∷ []
parts_for-lies_in desc key row lies =
    let found = slice_get desc.tables key.table in
    ap (λ (table : ℕ). parts_of (slice_get desc.tables table) row.cells)
    (table-lies_in desc key row lies)
    ∙ parts_of-holds found key.part row.cells
    (and_parts (row.table == key.table) (holds_cells found key.part row.cells) lies).1

-- a row that lies in a partition has that key
pub keys_of-lies_in : (desc : DescOf) (key : Key) (row : DRow) → lies_in desc key row ≡ true
    → keys_of desc row ≡ key ∷ []
keys_of-lies_in desc key row lies =
    ap (λ (parts : List ℕ). map (key_of row.table) parts) (parts_for-lies_in desc key row lies)
    ∙ ap (λ (table : ℕ). key_of table key.part ∷ []) (table-lies_in desc key row lies)

-- and one name
pub named-lies_in : (desc : DescOf) (key : Key) (number : ℕ) (row : DRow)
    → lies_in desc key row ≡ true → named desc number row ≡ aside_at number row key.part ∷ []
named-lies_in desc key number row lies =
    ap (λ (parts : List ℕ). map (aside_at number row) parts) (parts_for-lies_in desc key row lies)

-- cells of a table are for a partition exactly if they lie in it
has-parts_of : (found : Option TableOf) (cells : List Cell) (part : ℕ)
    → has (parts_of found cells) part ≡ holds_cells found part cells
has-parts_of None cells part = refl
has-parts_of (Some table) cells part = at_tick (row_tick table.kind cells)
  where
    at_tick : (tick : Option ℕ)
        → has (parts_at_tick table.width tick) part ≡ covers_tick table.width part tick
    at_tick None = refl
    at_tick (Some tick) = has-parts_covering table.width part tick

-- whether two numbers are one is the same either way
same-either_way : (number other : ℕ) → (number == other) ≡ nat_eq other number
same-either_way number other = grind (arith, nat_tests)

-- a key is that of a row exactly if the row lies in its partition
pub is_among-keys_of : (desc : DescOf) (row : DRow) (key : Key)
    → is_among (keys_of desc row) key ≡ lies_in desc key row
is_among-keys_of desc row key =
    let parts = parts_for desc row in
    list_any-map (is_key key) (key_of row.table) parts
    ∙ elim (cases_Bool (row.table == key.table)) [
      | inl same ↦ rw same
          (list_any-agree (λ part. part == key.part) (nat_eq key.part) parts
          (λ index default _. same-either_way (get_or parts index default) key.part)
          ∙ has-parts_of (slice_get desc.tables row.table) row.cells key.part
          ∙ ap (λ (table : ℕ). holds_cells (slice_get desc.tables table) key.part row.cells)
          (eqb-true row.table key.table same))
      | inr other ↦ rw other (list_any_none (λ _. false) parts (λ _ _ _. refl))
    ]

-- a row that lies in no partition has no key
pub keys_of-none : (desc : DescOf) (row : DRow) → parts_for desc row ≡ [] → keys_of desc row ≡ []
keys_of-none desc row none = ap (λ (parts : List ℕ). map (key_of row.table) parts) none

-- and is not late
pub is_late-none : (desc : DescOf) (before : List DeliveryOf) (row : DRow)
    → parts_for desc row ≡ [] → is_late desc before row ≡ false
is_late-none desc before row none =
    ap (λ (keys : List Key). list_any (is_closed_in desc before) keys) (keys_of-none desc row none)

-- whether a row lies in a partition of its own table
lies_in-own : (desc : DescOf) (row : DRow) (part : ℕ)
    → lies_in desc (key_of row.table part) row
    ≡ holds_cells (slice_get desc.tables row.table) part row.cells
lies_in-own desc row part =
    ap (λ (same : Bool). same && holds_cells (slice_get desc.tables row.table) part row.cells)
    (eq-eqb row.table row.table refl)

-- the partition that was found is the one that a row is for, if the row lies in it and in no other
pub parts_for-found : (desc : DescOf) (row : DRow) (found : Option ℕ)
    → ((part : ℕ) → has (option_to_list found) part ≡ lies_in desc (key_of row.table part) row)
    → parts_for desc row ≡ option_to_list found
parts_for-found desc row None exact =
    parts_of-none (slice_get desc.tables row.table) row.cells
    (λ part. sym (exact part ∙ lies_in-own desc row part))
parts_for-found desc row (Some part) exact =
    parts_for-lies_in desc (key_of row.table part) row
    (sym (exact part) ∙ or_left (part == part) false (eq-eqb part part refl))

-- it tells the key of the row
pub keys_of-found : (desc : DescOf) (row : DRow) (found : Option ℕ)
    → ((part : ℕ) → has (option_to_list found) part ≡ lies_in desc (key_of row.table part) row)
    → keys_of desc row ≡ map (key_of row.table) (option_to_list found)
keys_of-found desc row found exact =
    ap (λ (parts : List ℕ). map (key_of row.table) parts) (parts_for-found desc row found exact)

-- and its name
pub named-found : (desc : DescOf) (number : ℕ) (row : DRow) (found : Option ℕ)
    → ((part : ℕ) → has (option_to_list found) part ≡ lies_in desc (key_of row.table part) row)
    → named desc number row ≡ map (aside_at number row) (option_to_list found)
named-found desc number row found exact =
    ap (λ (parts : List ℕ). map (aside_at number row) parts) (parts_for-found desc row found exact)
