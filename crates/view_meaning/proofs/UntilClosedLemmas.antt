-- The rows and the version of a raw table's partition are those of the deliveries up to the first
-- one that closes it, with it.
use Rattle.std.proofs.Common.{◌≡◌, ◌∙◌, ℕ, suc, ◌+◌, ◌<◌, List, [], ◌∷◌, ◌++◌, length, take, drop}
use Rattle.std.proofs.Common.{get_or, cond, refl, sym, ap}
use Rattle.std.specs.Prelude.{Bool, Option, Some, true, false, ◌&&◌, ◌||◌, ◌==◌}
use Rattle.std.specs.Prelude.{count_by, flat_map, slice_get, if◌then◌else◌}
use Rattle.std.specs.List.{list_any}
use Rattle.std.proofs.lemmas.Bool.{or_parts}
use Rattle.std.proofs.lemmas.List.{append-nil, take-append-drop, take_more}
use Rattle.std.proofs.lemmas.List.Sums.{sum_by-cons}
use Rattle.std.proofs.Math.Seq.{drop-cons}
use Rattle.depot_cell.specs.declared.cell.Cell.{Cell}
use Rattle.desc_types.specs.declared.table.Key.{Key}
use Rattle.desc_types.specs.declared.delivery.DRow.{DRow}
use Rattle.desc_types.specs.Deliveries.{DeliveryOf}
use Rattle.desc_types.specs.Descriptions.{DescOf}
use Rattle.desc_types.specs.Tables.{TableOf}
use Rattle.view_meaning.specs.Closing.{closes, is_closed_in}
use Rattle.view_meaning.specs.SetAside.{kept_after, kept_rows}
use Rattle.view_meaning.specs.RawValues.{holds_cells, lies_in, raw_value}
use Rattle.view_meaning.specs.RawMarks.{until_closed}
use Rattle.view_meaning.specs.TableRows.{cells_where, lies_in_table}
use Rattle.view_meaning.specs.Versions.{loads_after, raw_version}
use Rattle.view_meaning.proofs.ClosedLemmas.{cells-closed, is_closed_in-append, is_closed_in-push}
use Rattle.view_meaning.proofs.ClosedLemmas.{touches-closed}
use Rattle.view_meaning.proofs.RawLemmas.{cells_where-append}

-- one delivery more closes a partition that is open exactly if it is one that closes it
is_closed_in-next : (desc : DescOf) (before : List DeliveryOf) (key : Key) (delivery : DeliveryOf)
    → is_closed_in desc before key ≡ false
    → is_closed_in desc (before ++ delivery ∷ []) key ≡ closes desc key delivery
is_closed_in-next desc before key delivery still =
    is_closed_in-push desc before key delivery
    ∙ ap (λ (closed : Bool). closed || closes desc key delivery) still

-- after deliveries that closed a partition none counts
loads_after-closed : (desc : DescOf) (key : Key) (before accepted : List DeliveryOf)
    → is_closed_in desc before key ≡ true → loads_after desc key before accepted ≡ 0
loads_after-closed desc key before [] closed = refl
loads_after-closed desc key before (delivery ∷ later) closed =
    rw (touches-closed desc key before delivery, closed)
    (rw (loads_after-closed desc key (before ++ delivery ∷ []) later
    (is_closed_in-append desc before (delivery ∷ []) key closed)) refl)

-- whether a delivery has a row in a partition
abbrev has_row : DescOf → Key → DeliveryOf → Bool
has_row desc key delivery = list_any (lies_in desc key) delivery.rows

-- so if those that count are known of an open partition, they are of any
loads_after-rest : (desc : DescOf) (key : Key) (before later : List DeliveryOf) (closed : Bool)
    → is_closed_in desc before key ≡ closed
    → (is_closed_in desc before key ≡ false
    → loads_after desc key before later ≡ count_by (has_row desc key) (until_closed desc key later))
    → loads_after desc key before later
    ≡ count_by (has_row desc key) (if closed then [] else until_closed desc key later)
loads_after-rest desc key before later true closed counted =
    loads_after-closed desc key before later closed
loads_after-rest desc key before later false closed counted = counted closed

-- after deliveries that did not close it, those count that have a row in it, up to the one that
-- closes it
loads_after-until_closed : (desc : DescOf) (key : Key) (before accepted : List DeliveryOf)
    → is_closed_in desc before key ≡ false
    → loads_after desc key before accepted
    ≡ count_by (has_row desc key) (until_closed desc key accepted)
loads_after-until_closed desc key before [] still = refl
loads_after-until_closed desc key before (delivery ∷ later) still =
    let next = before ++ delivery ∷ [] in
    let closing = closes desc key delivery in
    rw (touches-closed desc key before delivery, still)
    (ap (λ (count : ℕ). (if has_row desc key delivery then 1 else 0) + count)
    (loads_after-rest desc key next later closing
    (is_closed_in-next desc before key delivery still)
    (loads_after-until_closed desc key next later))
    ∙ sym (sum_by-cons (λ delivery. cond (has_row desc key delivery) 1 0) delivery
    (if closing then [] else until_closed desc key later)))

-- the cells of the rows that a delivery has in a partition
abbrev cells_of : DescOf → Key → DeliveryOf → List (List Cell)
cells_of desc key delivery = cells_where (lies_in desc key) delivery.rows

-- after deliveries that closed a partition none keeps a row in it
kept_after-closed : (desc : DescOf) (key : Key) (before accepted : List DeliveryOf)
    → is_closed_in desc before key ≡ true
    → cells_where (lies_in desc key) (kept_after desc before accepted) ≡ []
kept_after-closed desc key before [] closed = refl
kept_after-closed desc key before (delivery ∷ later) closed =
    let next = before ++ delivery ∷ [] in
    cells_where-append (lies_in desc key) (kept_rows desc before delivery)
    (kept_after desc next later)
    ∙ ap (λ (rows : List (List Cell)). rows
    ++ cells_where (lies_in desc key) (kept_after desc next later))
    (rw closed at (cells-closed desc key before delivery))
    ∙ kept_after-closed desc key next later
    (is_closed_in-append desc before (delivery ∷ []) key closed)

-- so if the rows kept are known of an open partition, they are of any
kept_after-rest : (desc : DescOf) (key : Key) (before later : List DeliveryOf) (closed : Bool)
    → is_closed_in desc before key ≡ closed
    → (is_closed_in desc before key ≡ false
    → cells_where (lies_in desc key) (kept_after desc before later)
    ≡ flat_map (cells_of desc key) (until_closed desc key later))
    → cells_where (lies_in desc key) (kept_after desc before later)
    ≡ flat_map (cells_of desc key) (if closed then [] else until_closed desc key later)
kept_after-rest desc key before later true closed kept =
    kept_after-closed desc key before later closed
kept_after-rest desc key before later false closed kept = kept closed

-- after deliveries that did not close it, their rows in it are kept, up to the one that does
kept_after-until_closed : (desc : DescOf) (key : Key) (before accepted : List DeliveryOf)
    → is_closed_in desc before key ≡ false
    → cells_where (lies_in desc key) (kept_after desc before accepted)
    ≡ flat_map (cells_of desc key) (until_closed desc key accepted)
kept_after-until_closed desc key before [] still = refl
kept_after-until_closed desc key before (delivery ∷ later) still =
    let next = before ++ delivery ∷ [] in
    cells_where-append (lies_in desc key) (kept_rows desc before delivery)
    (kept_after desc next later)
    ∙ ap (λ (rows : List (List Cell)). rows
    ++ cells_where (lies_in desc key) (kept_after desc next later))
    (rw still at (cells-closed desc key before delivery))
    ∙ ap (λ (rows : List (List Cell)). cells_of desc key delivery ++ rows)
    (kept_after-rest desc key next later (closes desc key delivery)
    (is_closed_in-next desc before key delivery still)
    (kept_after-until_closed desc key next later))

-- the version of a partition of a table is how many of these deliveries have a row in it
pub raw_version-until_closed : (desc : DescOf) (accepted : List DeliveryOf) (key : Key)
    (table : TableOf) → slice_get desc.tables key.table ≡ Some table
    → raw_version desc accepted key
    ≡ count_by (λ delivery. list_any (lies_in_table table key) delivery.rows)
    (until_closed desc key accepted)
raw_version-until_closed desc accepted key table found =
    loads_after-until_closed desc key [] accepted refl
    ∙ ap (λ (found : Option TableOf). count_by
    (λ delivery. list_any (λ (row : DRow). (row.table == key.table)
    && holds_cells found key.part row.cells) delivery.rows)
    (until_closed desc key accepted)) found

-- its rows are those that these deliveries have in it
pub raw_value-until_closed : (desc : DescOf) (accepted : List DeliveryOf) (key : Key)
    (table : TableOf) → slice_get desc.tables key.table ≡ Some table
    → raw_value desc accepted key
    ≡ flat_map (λ delivery. cells_where (lies_in_table table key) delivery.rows)
    (until_closed desc key accepted)
raw_value-until_closed desc accepted key table found =
    kept_after-until_closed desc key [] accepted refl
    ∙ ap (λ (found : Option TableOf). flat_map
    (λ delivery. cells_where (λ (row : DRow). (row.table == key.table)
    && holds_cells found key.part row.cells) delivery.rows)
    (until_closed desc key accepted)) found

-- deliveries that do not close the partition are all among them, if more follow
until_closed-append : (desc : DescOf) (key : Key) (before more : List DeliveryOf)
    → is_closed_in desc before key ≡ false
    → until_closed desc key (before ++ more) ≡ before ++ until_closed desc key more
until_closed-append desc key [] more still = refl
until_closed-append desc key (delivery ∷ later) more still =
    let parts = or_parts (closes desc key delivery) (is_closed_in desc later key) still in
    rw parts.0
    (ap (λ (rest : List DeliveryOf). delivery ∷ rest)
    (until_closed-append desc key later more parts.1))

-- if none closes the partition these deliveries are all
pub until_closed-none : (desc : DescOf) (key : Key) (accepted : List DeliveryOf)
    → is_closed_in desc accepted key ≡ false → until_closed desc key accepted ≡ accepted
until_closed-none desc key accepted still =
    ap (until_closed desc key) (sym (append-nil accepted))
    ∙ until_closed-append desc key accepted [] still
    ∙ append-nil accepted

-- and else they end with the first one that does
pub until_closed-take : (desc : DescOf) (key : Key) (accepted : List DeliveryOf) (index : ℕ)
    (delivery : DeliveryOf) → index < length accepted
    → delivery ≡ get_or accepted index delivery
    → is_closed_in desc (take index accepted) key ≡ false → closes desc key delivery ≡ true
    → until_closed desc key accepted ≡ take (index + 1) accepted
until_closed-take desc key accepted index delivery within read still closing =
    let next : drop index accepted ≡ delivery ∷ drop (suc index) accepted =
    drop-cons accepted index delivery within
    ∙ ap (λ (first : DeliveryOf). first ∷ drop (suc index) accepted) (sym read) in
    ap (until_closed desc key) (sym (take-append-drop index accepted))
    ∙ until_closed-append desc key (take index accepted) (drop index accepted) still
    ∙ ap (λ (rest : List DeliveryOf). take index accepted ++ until_closed desc key rest) next
    ∙ rw closing refl
    ∙ sym (take_more accepted index delivery within
    ∙ ap (λ (last : DeliveryOf). take index accepted ++ last ∷ []) (sym read))
