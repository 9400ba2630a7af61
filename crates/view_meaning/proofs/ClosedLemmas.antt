-- What closing does: a row is late exactly if its partition is closed, and a delivery keeps in a
-- partition either all its rows or none. No proof above these has to look at a tick.
use Rattle.std.proofs.Common.{◌≡◌, ◌∙◌, List, [], ◌∷◌, ◌++◌, map, cond, refl, sym, ap}
use Rattle.std.specs.Prelude.{Bool, true, false, not, ◌&&◌, ◌||◌, filter, if◌then◌else◌}
use Rattle.std.specs.List.{list_any}
use Rattle.std.proofs.lemmas.Bool.{or_left, or_parts}
use Rattle.std.proofs.lemmas.List.Elements.{filter_agree}
use Rattle.std.proofs.lemmas.List.Folds.{list_any-append}
use Rattle.std.proofs.lemmas.Map.Views.{any-filter_same}
use Rattle.std.proofs.Math.Bool.{and-false, or-false}
use Rattle.desc_types.specs.declared.table.Key.{Key}
use Rattle.desc_types.specs.declared.delivery.DRow.{DRow}
use Rattle.desc_types.specs.Deliveries.{DeliveryOf}
use Rattle.desc_types.specs.Descriptions.{DescOf}
use Rattle.partition_map.proofs.ListLemmas.{filter-none}
use Rattle.view_meaning.specs.Closing.{closes, is_closed_in}
use Rattle.view_meaning.specs.SetAside.{is_late, kept_rows}
use Rattle.view_meaning.specs.RawValues.{lies_in}
use Rattle.view_meaning.specs.TableRows.{cells_where}
use Rattle.view_meaning.specs.Versions.{touches}
use Rattle.view_meaning.specs.Stability.{HasShutClosed}
use Rattle.view_meaning.proofs.LateLemmas.{keys_of-lies_in}

-- one delivery more closes a partition, or it was closed
pub is_closed_in-push : (desc : DescOf) (accepted : List DeliveryOf) (key : Key)
    (delivery : DeliveryOf)
    → is_closed_in desc (accepted ++ delivery ∷ []) key
    ≡ (is_closed_in desc accepted key || closes desc key delivery)
is_closed_in-push desc accepted key delivery =
    list_any-append (closes desc key) accepted (delivery ∷ [])
    ∙ ap (λ (last : Bool). is_closed_in desc accepted key || last)
    (or-false (closes desc key delivery))

-- a closed partition stays closed as more is accepted
pub is_closed_in-append : (desc : DescOf) (accepted more : List DeliveryOf) (key : Key)
    → is_closed_in desc accepted key ≡ true → is_closed_in desc (accepted ++ more) key ≡ true
is_closed_in-append desc accepted more key closed =
    list_any-append (closes desc key) accepted more
    ∙ or_left (is_closed_in desc accepted key) (is_closed_in desc more key) closed

-- a partition that is open was open before
pub is_closed_in-front : (desc : DescOf) (accepted more : List DeliveryOf) (key : Key)
    → is_closed_in desc (accepted ++ more) key ≡ false → is_closed_in desc accepted key ≡ false
is_closed_in-front desc accepted more key still =
    (or_parts (is_closed_in desc accepted key) (is_closed_in desc more key)
    (sym (list_any-append (closes desc key) accepted more) ∙ still)).0

-- a row that lies in a partition is late exactly if that is closed
pub is_late-closed : (desc : DescOf) (before : List DeliveryOf) (key : Key) (row : DRow)
    → lies_in desc key row ≡ true → is_late desc before row ≡ is_closed_in desc before key
is_late-closed desc before key row lies =
    ap (λ (keys : List Key). list_any (is_closed_in desc before) keys)
    (keys_of-lies_in desc key row lies)
    ∙ or-false (is_closed_in desc before key)

-- and kept exactly if that is not closed
not-late-closed : (desc : DescOf) (before : List DeliveryOf) (key : Key) (row : DRow)
    → lies_in desc key row ≡ true
    → not (is_late desc before row) ≡ not (is_closed_in desc before key)
not-late-closed desc before key row lies =
    ap (λ (late : Bool). not late) (is_late-closed desc before key row lies)

-- a delivery keeps a row in a partition if it has one and the partition is not closed
pub touches-closed : (desc : DescOf) (key : Key) (before : List DeliveryOf) (delivery : DeliveryOf)
    → touches desc key before delivery
    ≡ (not (is_closed_in desc before key) && list_any (lies_in desc key) delivery.rows)
touches-closed desc key before delivery =
    any-filter_same (lies_in desc key) (λ row. not (is_late desc before row))
    (not (is_closed_in desc before key)) (not-late-closed desc before key) delivery.rows

-- two filters keep what passes both tests
filter-filter : {X : Type 0} (test keep : X → Bool) (xs : List X)
    → filter test (filter keep xs) ≡ filter (λ x. keep x && test x) xs
filter-filter test keep [] = refl
filter-filter {X = X} test keep (x ∷ xs) =
    first (keep x)
    ∙ ap (λ (rest : List X). cond (keep x && test x) (x ∷ rest) rest) (filter-filter test keep xs)
  where
    first : (keeps : Bool)
        → filter test (cond keeps (x ∷ filter keep xs) (filter keep xs))
        ≡ cond (keeps && test x) (x ∷ filter test (filter keep xs)) (filter test (filter keep xs))
    first true = refl
    first false = refl

-- a filter that asks something else besides keeps all that it kept, or nothing
filter-and : {X : Type 0} (test : X → Bool) (also : Bool) (xs : List X)
    → filter (λ x. also && test x) xs ≡ (if also then filter test xs else [])
filter-and test true xs = refl
filter-and test false xs = filter-none (λ _. false) xs (λ _ _ _. refl)

-- a filter by what a test cannot tell apart keeps all that the test passes, or nothing of it
filter-same : {X : Type 0} (test keep : X → Bool) (all : Bool)
    → ((x : X) → test x ≡ true → keep x ≡ all) → (xs : List X)
    → filter test (filter keep xs) ≡ (if all then filter test xs else [])
filter-same {X = X} test keep all same xs =
    filter-filter test keep xs
    ∙ filter_agree (λ x. keep x && test x) (λ x. all && test x)
    (λ x. agree (test x) (keep x) (same x)) xs
    ∙ filter-and test all xs
  where
    agree : (passes keeps : Bool) → (passes ≡ true → keeps ≡ all)
        → (keeps && passes) ≡ (all && passes)
    agree true keeps same = rw (same refl) refl
    agree false keeps same = and-false keeps ∙ sym (and-false all)

-- a delivery keeps the cells of all its rows in a partition, or of none if the partition is closed
pub cells-closed : (desc : DescOf) (key : Key) (before : List DeliveryOf) (delivery : DeliveryOf)
    → cells_where (lies_in desc key) (kept_rows desc before delivery)
    ≡ (if not (is_closed_in desc before key) then cells_where (lies_in desc key) delivery.rows
    else [])
cells-closed desc key before delivery =
    ap (λ (rows : List DRow). map (λ (row : DRow). row.cells) rows)
    (filter-same (lies_in desc key) (λ row. not (is_late desc before row))
    (not (is_closed_in desc before key)) (not-late-closed desc before key) delivery.rows)
    ∙ map-if (not (is_closed_in desc before key)) (filter (lies_in desc key) delivery.rows)
  where
    map-if : (all : Bool) (rows : List DRow)
        → map (λ (row : DRow). row.cells) (if all then rows else [])
        ≡ (if all then map (λ (row : DRow). row.cells) rows else [])
    map-if true rows = refl
    map-if false rows = refl

-- once a partition is closed no delivery keeps a row in it
pub shut_closed : HasShutClosed
shut_closed desc accepted key closed more delivery =
    touches-closed desc key (accepted ++ more) delivery
    ∙ ap (λ (closed : Bool). not closed && list_any (lies_in desc key) delivery.rows)
    (is_closed_in-append desc accepted more key closed)
