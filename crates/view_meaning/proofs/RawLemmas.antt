-- The rows and the version of a raw table's partition, as deliveries are accepted.
use Rattle.std.proofs.Common.{◌≡◌, ◌∙◌, ℕ, ◌+◌, List, [], ◌∷◌, ◌++◌, get_or}
use Rattle.std.proofs.Common.{refl, sym, ap, map, arith}
use Rattle.std.specs.Prelude.{Bool, None, true, false, ◌==◌, filter, slice_get, if◌then◌else◌}
use Rattle.std.proofs.lemmas.List.{append-nil, append_assoc, map-append}
use Rattle.std.proofs.lemmas.List.Elements.{filter-append}
use Rattle.std.proofs.lemmas.List.Folds.{list_any_none}
use Rattle.std.proofs.Math.Bool.{and-false}
use Rattle.std.proofs.Math.Nat.{add_assoc}
use Rattle.desc_types.specs.declared.table.Key.{Key}
use Rattle.desc_types.specs.declared.delivery.DRow.{DRow}
use Rattle.desc_types.specs.Deliveries.{DeliveryOf}
use Rattle.desc_types.specs.Descriptions.{DescOf}
use Rattle.view_meaning.specs.declared.journal.Entry.{Entry}
use Rattle.view_meaning.specs.Journal.{accepted}
use Rattle.view_meaning.specs.RawValues.{lies_in, raw_value}
use Rattle.view_meaning.specs.TableRows.{cells_where}
use Rattle.view_meaning.specs.SetAside.{kept, kept_rows}
use Rattle.view_meaning.specs.Versions.{touches, loads_after, raw_version, is_raw, version}
use Rattle.partition_map.proofs.ListLemmas.{filter-none}

-- the cells of two lists of rows are those of the first, then those of the second
pub cells_where-append : (test : DRow → Bool) (rows more : List DRow)
    → cells_where test (rows ++ more) ≡ cells_where test rows ++ cells_where test more
cells_where-append test rows more =
    ap (λ (passed : List DRow). map (λ (row : DRow). row.cells) passed)
    (filter-append test rows more)
    ∙ map-append (λ (row : DRow). row.cells) (filter test rows) (filter test more)

-- the deliveries of two lists that count are those of the first, then those of the second
pub loads_after-append : (desc : DescOf) (key : Key) (before accepted more : List DeliveryOf)
    → loads_after desc key before (accepted ++ more)
    ≡ loads_after desc key before accepted + loads_after desc key (before ++ accepted) more
loads_after-append desc key before [] more =
    omega (
      arith,
      ap (λ (all : List DeliveryOf). loads_after desc key all more) (append-nil before),
    )
loads_after-append desc key before (delivery ∷ later) more =
    let next = before ++ delivery ∷ [] in
    let own = if touches desc key before delivery then 1 else 0 in
    ap (λ (count : ℕ). own + count)
    (loads_after-append desc key next later more
    ∙ ap (λ (all : List DeliveryOf).
    loads_after desc key next later + loads_after desc key all more)
    (append_assoc before (delivery ∷ []) later))
    ∙ sym (add_assoc own (loads_after desc key next later)
    (loads_after desc key (before ++ delivery ∷ later) more))

-- a delivery keeps no row in a key if no row lies in it
touches-none : (desc : DescOf) (key : Key) (before : List DeliveryOf) (delivery : DeliveryOf)
    → ((row : DRow) → lies_in desc key row ≡ false) → touches desc key before delivery ≡ false
touches-none desc key before delivery none =
    let rows = kept_rows desc before delivery in
    list_any_none (lies_in desc key) rows (λ index default _. none (get_or rows index default))

-- so no delivery counts
pub loads_after-none : (desc : DescOf) (key : Key) (before accepted : List DeliveryOf)
    → ((row : DRow) → lies_in desc key row ≡ false) → loads_after desc key before accepted ≡ 0
loads_after-none desc key before [] none = refl
loads_after-none desc key before (delivery ∷ later) none =
    rw (touches-none desc key before delivery none)
    (rw (loads_after-none desc key (before ++ delivery ∷ []) later none) refl)

-- if there is no such table no row lies in the partition
lies_in-none : (desc : DescOf) (key : Key) → slice_get desc.tables key.table ≡ None
    → (row : DRow) → lies_in desc key row ≡ false
lies_in-none desc key no_table row = rw no_table (and-false (row.table == key.table))

-- if there is no such table there are no rows
pub raw_value-none : (desc : DescOf) (accepted : List DeliveryOf) (key : Key)
    → slice_get desc.tables key.table ≡ None → raw_value desc accepted key ≡ []
raw_value-none desc accepted key no_table =
    let rows = kept desc accepted in
    ap (λ (passed : List DRow). map (λ (row : DRow). row.cells) passed)
    (filter-none (lies_in desc key) rows
    (λ index default _. lies_in-none desc key no_table (get_or rows index default)))

-- if there is no such table the version is 0
pub raw_version-none : (desc : DescOf) (accepted : List DeliveryOf) (key : Key)
    → slice_get desc.tables key.table ≡ None → raw_version desc accepted key ≡ 0
raw_version-none desc accepted key no_table =
    loads_after-none desc key [] accepted (lies_in-none desc key no_table)

-- the version of a raw table's partition is told by the accepted deliveries
pub version-raw : (desc : DescOf) (journal : List Entry) (key : Key)
    → is_raw (slice_get desc.tables key.table) ≡ true
    → version desc journal key ≡ raw_version desc (accepted journal) key
version-raw desc journal key raw = rw raw refl
