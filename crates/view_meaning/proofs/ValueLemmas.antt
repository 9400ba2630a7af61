-- The value of a view's partition, one table down: `value_within-view`. In a loop over the
-- partitions of a source take `rows_of_run-push`.
use Rattle.std.proofs.Common.{◌≡◌, ◌∙◌, ℕ, suc, zero, ◌+◌, ◌-◌, ◌<◌, ◌≤◌, List, [], ◌∷◌, ◌++◌}
use Rattle.std.proofs.Common.{refl, sym, ap, arith, map}
use Rattle.std.specs.Prelude.{Some, false, flat_map, slice_get}
use Rattle.std.specs.List.{range_with_len}
use Rattle.std.proofs.lemmas.Grind.{flat_map-append}
use Rattle.std.proofs.lemmas.List.{append-nil}
use Rattle.std.proofs.lemmas.List.FromFn.{map-range_with_len_more}
use Rattle.depot_cell.specs.declared.cell.Cell.{Cell}
use Rattle.desc_types.specs.declared.table.Key.{Key}
use Rattle.desc_types.specs.Deliveries.{DeliveryOf}
use Rattle.desc_types.specs.Descriptions.{DescOf}
use Rattle.desc_types.specs.Tables.{TableOf}
use Rattle.desc_types.specs.KindValues.{KindOf}
use Rattle.desc_types.specs.Sources.{kind_sources}
use Rattle.view_meaning.specs.Operations.{operation}
use Rattle.view_meaning.specs.Versions.{is_raw_kind}
use Rattle.view_meaning.specs.Values.{joined, rows_at, value_over, value_within}

-- if some tables may be gone down through, the value is that over the tables one further down
value_within-step : (desc : DescOf) (accepted : List DeliveryOf) (depth : ℕ) (key : Key)
    → 0 < depth
    → value_within depth desc accepted key
    ≡ value_over desc accepted (value_within (depth - 1) desc accepted) key
    (slice_get desc.tables key.table)
value_within-step desc accepted zero key some = absurd (omega (arith, some))
value_within-step desc accepted (suc depth) key some =
    ap (λ (below : ℕ). value_over desc accepted (value_within below desc accepted) key
    (slice_get desc.tables key.table))
    (omega arith)

-- the rows of so many partitions of a table from one on, joined in their order
abbrev pub rows_of_run : (Key → List (List Cell)) → (table from many : ℕ) → List (List Cell)
rows_of_run rows table from many =
    flat_map rows (map (λ part. record { table = table; part = part }) (range_with_len from many))

-- one partition more adds its rows at the end
rows_of_run-step : (rows : Key → List (List Cell)) (table from part : ℕ) → from ≤ part
    → rows_of_run rows table from (part + 1 - from)
    ≡ rows_of_run rows table from (part - from) ++ rows (record { table = table; part = part })
rows_of_run-step rows table from part at_least =
    let key : ℕ → Key = λ (part : ℕ). record { table = table; part = part } in
    let many = part - from in
    ap (λ (count : ℕ). rows_of_run rows table from count)
    (let count : part + 1 - from ≡ many + 1 = omega arith in count)
    ∙ ap (λ (keys : List Key). flat_map rows keys)
    (map-range_with_len_more key from many part (omega arith))
    ∙ flat_map-append rows (map key (range_with_len from many)) (key part ∷ [])
    ∙ ap (λ last. rows_of_run rows table from many ++ last) (append-nil (rows (key part)))

-- rows that are those of the partitions so far are those with the next one, if its rows are put
-- after them
pub rows_of_run-push : (rows : Key → List (List Cell)) (table from part : ℕ)
    (old new : List (List Cell)) → from ≤ part
    → old ≡ rows_of_run rows table from (part - from)
    → new ≡ old ++ rows (record { table = table; part = part })
    → new ≡ rows_of_run rows table from (part + 1 - from)
rows_of_run-push rows table from part old new at_least before grown =
    grown
    ∙ ap (λ (front : List (List Cell)). front ++ rows (record { table = table; part = part }))
    before
    ∙ sym (rows_of_run-step rows table from part at_least)

-- the value of a view's partition is what it makes of the values of its left and right source
pub value_within-view : (desc : DescOf) (accepted : List DeliveryOf) (depth : ℕ) (key : Key)
    (table : TableOf) (kind : KindOf) (width : ℕ) (left right : List (List Cell))
    → 0 < depth → slice_get desc.tables key.table ≡ Some table
    → table.kind ≡ kind → is_raw_kind kind ≡ false → width ≡ table.width
    → left ≡ rows_at (joined desc (value_within (depth - 1) desc accepted) width key.part)
    (slice_get (kind_sources kind) 0)
    → right ≡ rows_at (joined desc (value_within (depth - 1) desc accepted) width key.part)
    (slice_get (kind_sources kind) 1)
    → value_within depth desc accepted key ≡ operation kind left right
value_within-view desc accepted depth key table kind width left right some found is view wide first
    second =
    value_within-step desc accepted depth key some
    ∙ rw (found, is, view, ← wide, ← first, ← second) refl
