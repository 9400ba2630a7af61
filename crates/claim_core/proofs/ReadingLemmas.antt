-- The partitions that a view's partition reads of one source: they follow one another by number.
-- Whether all are settled, and which versions of them are read, is told from the first one on.
use Rattle.std.proofs.Common.{◌≡◌, ◌∙◌, ◌+◌, ◌-◌, ◌*◌, ◌++◌, ◌<◌, ◌≤◌, ◌∷◌, List, [], ap, arith, map}
use Rattle.std.proofs.Common.{subst, suc, sym, true, ℕ}
use Rattle.std.specs.Prelude.{All, Bool, ◌&&◌, ◌+ℤ◌, filter, flat_map, max, min, pos}
use Rattle.std.specs.List.{list_all, range_with_len}
use Rattle.std.proofs.lemmas.Bool.{lt-ltb, ltb-true}
use Rattle.std.proofs.lemmas.List.{append_assoc}
use Rattle.std.proofs.lemmas.List.Elements.{All-append, All-head, All-map, All-nil, All-tail}
use Rattle.std.proofs.lemmas.List.Elements.{All-weaker, filter-append, filter_passes}
use Rattle.desc_types.specs.Descriptions.{DescOf}
use Rattle.desc_types.specs.Sources.{table_width}
use Rattle.desc_types.specs.declared.table.Key.{Key}
use Rattle.desc_types.specs.declared.view.Src.{Src}
use Rattle.partition_map.specs.Partitions.{end_of, is_met, parts_met, source_parts, start_of}
use Rattle.partition_map.specs.Partitions.{tick_at_least}
use Rattle.partition_map.specs.Time.{END}
use Rattle.view_meaning.specs.declared.journal.Entry.{Entry}
use Rattle.view_meaning.specs.Partitions.{is_part, key_of, keys_read}
use Rattle.view_meaning.specs.Versions.{version}
use Rattle.depot_marks.proofs.BelowLemmas.{keys_read-run}
use Rattle.query_pin.specs.declared.input.Input.{Input}
use Rattle.machine_meaning.specs.States.{is_some_version, latest}

-- the partitions of a table from one number up to another
abbrev pub keys_from : (table from to : ℕ) → List Key
keys_from table from to = map (key_of table) (range_with_len from (to - from))

-- the first of them stands before those from the next number on
pub keys_from-step : (table from to : ℕ) → from < to
    → keys_from table from to ≡ key_of table from ∷ keys_from table (from + 1) to
keys_from-step table from to within =
    let many : to - from ≡ suc (to - (from + 1)) = omega (arith, within) in
    ap (λ (many : ℕ). map (key_of table) (range_with_len from many)) many

-- those that are read of a source follow one another
pub keys_from-read : (desc : DescOf) (width part : ℕ) (src : Src) (first count : ℕ)
    → source_parts width (table_width desc src.table) src.span part ≡ range_with_len first count
    → flat_map (keys_read desc width part) (src ∷ []) ≡ keys_from src.table first (first + count)
keys_from-read desc width part src first count read =
    let many : count ≡ first + count - first = omega arith in
    sym (keys_read-run desc width part src first count read)
    ∙ ap (λ (many : ℕ). map (key_of src.table) (range_with_len first many)) many

-- what shares a tick with a span of time shares one with time
is_met-in_time : (width from to part : ℕ) → is_met width from to part ≡ true → to ≤ END
    → is_met width 0 END part ≡ true
is_met-in_time width from to part met in_time =
    let shared : max (start_of width part) from < min (end_of width part) to =
    ltb-true (max (start_of width part) from) (min (end_of width part) to) met in
    lt-ltb (max (start_of width part) 0) (min (end_of width part) END) (omega arith)

-- what is read of a source are partitions
keys_read-in_time : (desc : DescOf) (width part : ℕ) (src : Src)
    → All (λ source. is_part desc source ≡ true) (keys_read desc width part src)
keys_read-in_time desc width part src =
    let source_width = table_width desc src.table in
    let from = tick_at_least (pos (part * width) +ℤ src.span.lo) in
    let to = min END (tick_at_least (pos ((part + 1) * width) +ℤ src.span.hi)) in
    All-map (λ source. is_part desc source ≡ true)
    (λ source. record { table = src.table; part = source })
    (parts_met source_width from to)
    (All-weaker (λ source. is_met source_width from to source ≡ true)
    (λ source. is_met source_width 0 END source ≡ true)
    (λ source met. is_met-in_time source_width from to source met (omega arith))
    (parts_met source_width from to)
    (filter_passes (is_met source_width from to) (range_with_len 0 to)))

-- so they are from the first one on
pub keys_from-parts : (desc : DescOf) (width part : ℕ) (src : Src) (first count : ℕ)
    → source_parts width (table_width desc src.table) src.span part ≡ range_with_len first count
    → All (λ source. is_part desc source ≡ true) (keys_from src.table first (first + count))
keys_from-parts desc width part src first count read =
    subst (All (λ source. is_part desc source ≡ true))
    (keys_from-read desc width part src first count read)
    (All-append (λ source. is_part desc source ≡ true) (keys_read desc width part src) []
    (keys_read-in_time desc width part src) (All-nil (λ source. is_part desc source ≡ true)))

-- what is true of all is true of the first, and of the others
pub keys_from-first : (P : Key → Type 0) (table from to : ℕ) → from < to
    → All P (keys_from table from to) → P (key_of table from)
keys_from-first P table from to within all =
    All-head P (key_of table from) (keys_from table (from + 1) to)
    (subst (All P) (keys_from-step table from to within) all)

pub keys_from-others : (P : Key → Type 0) (table from to : ℕ) → from < to
    → All P (keys_from table from to) → All P (keys_from table (from + 1) to)
keys_from-others P table from to within all =
    All-tail P (key_of table from) (keys_from table (from + 1) to)
    (subst (All P) (keys_from-step table from to within) all)

-- all pass a test exactly if the first does and the others do
pub list_all-first : (test : Key → Bool) (table from to : ℕ) (passes : Bool) → from < to
    → test (key_of table from) ≡ passes
    → list_all test (keys_from table from to)
    ≡ (passes && list_all test (keys_from table (from + 1) to))
list_all-first test table from to passes within first =
    ap (list_all test) (keys_from-step table from to within)
    ∙ ap (λ (passes : Bool). passes && list_all test (keys_from table (from + 1) to)) first

-- the versions of partitions from one on, without empty ones
abbrev pub inputs_from : DescOf → List Entry → (table from to : ℕ) → List Input
inputs_from desc journal table from to =
    filter is_some_version (map (latest desc journal) (keys_from table from to))

-- that of the first stands before the others
inputs_from-step : (desc : DescOf) (journal : List Entry) (table from to : ℕ) → from < to
    → inputs_from desc journal table from to
    ≡ filter is_some_version (latest desc journal (key_of table from) ∷ [])
    ++ inputs_from desc journal table (from + 1) to
inputs_from-step desc journal table from to within =
    ap (λ (keys : List Key). filter is_some_version (map (latest desc journal) keys))
    (keys_from-step table from to within)
    ∙ filter-append is_some_version (latest desc journal (key_of table from) ∷ [])
    (map (latest desc journal) (keys_from table (from + 1) to))

-- so if it is put at the end, what is there and what is to come is the same
pub inputs_from-push : (desc : DescOf) (journal : List Entry) (table from to number : ℕ)
    (items more all : List Input) → from < to
    → number ≡ version desc journal (key_of table from)
    → more ≡ items
    ++ filter is_some_version (record { key = key_of table from; version = number } ∷ [])
    → items ++ inputs_from desc journal table from to ≡ all
    → more ++ inputs_from desc journal table (from + 1) to ≡ all
inputs_from-push desc journal table from to number items more all within told pushed before =
    let rest = inputs_from desc journal table (from + 1) to in
    let first = filter is_some_version (latest desc journal (key_of table from) ∷ []) in
    ap (λ (front : List Input). front ++ rest)
    (pushed ∙ ap (λ (number : ℕ). items
    ++ filter is_some_version (record { key = key_of table from; version = number } ∷ [])) told)
    ∙ append_assoc items first rest
    ∙ ap (λ (later : List Input). items ++ later)
    (sym (inputs_from-step desc journal table from to within))
    ∙ before
