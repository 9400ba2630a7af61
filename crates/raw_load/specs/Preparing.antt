-- A delivery that was prepared: what loading it will do, and that there is room for it.
use Rattle.std.specs.Prelude.{◌≡◌, ◌-◌, List, Some, None, Result, Ok, Err, length}
use Rattle.std.specs.List.Sorted.{IsStrictlySortedBy}
use Rattle.desc_types.specs.declared.table.Key.{Key}
use Rattle.desc_types.specs.Deliveries.{DeliveryOf}
use Rattle.desc_types.specs.Descriptions.{DescOf}
use Rattle.desc_types.specs.Keys.{key_cmp}
use Rattle.view_meaning.specs.declared.aside.Aside.{Aside}
use Rattle.view_meaning.specs.Partitions.{is_among}
use Rattle.view_meaning.specs.SetAside.{aside_rows, asides_of, kept_rows}
use Rattle.view_meaning.specs.Versions.{touches}
use Rattle.raw_load.specs.declared.prepared.Counts.{Counts}
use Rattle.raw_load.specs.declared.prepared.LoadFault.{LoadFault}
use Rattle.raw_load.specs.declared.prepared.LoadFault.TheVariants.{Repeat, Memory}
use Rattle.raw_load.specs.declared.sorting.Sorted.{Sorted}
use Rattle.raw_load.specs.Books.{LoadOf, place_in}
use Rattle.raw_load.specs.Stretches.{Stretches}

-- a prepared delivery: how many of its rows will be kept and set aside, these by name, the raw
-- partitions in which it will keep rows, and where these rows lie in it
pub record PreparedOf : Type 0 where
  pub delivery : DeliveryOf
  pub counts : Counts
  pub asides : List Aside
  pub touched : List Key
  pub found : Stretches

-- a delivery whose rows were sorted, with the partitions in which rows were found
abbrev pub prepared_of : DeliveryOf → Sorted → (touched : List Key) → PreparedOf
prepared_of delivery sorted touched = record {
  delivery = delivery;
  counts = record {
    kept = length delivery.rows - length sorted.asides.items;
    aside = length sorted.asides.items;
  };
  asides = sorted.asides.items;
  touched = touched;
  found = sorted.found.entries;
}

-- how many rows of a delivery are kept and set aside, if these were accepted before it
abbrev pub counts_of : DescOf → (before : List DeliveryOf) → DeliveryOf → Counts
counts_of desc before delivery = record {
  kept = length (kept_rows desc before delivery);
  aside = length (aside_rows desc before delivery);
}

-- a prepared delivery tells what loading it after these will do: each partition in which it keeps a
-- row once, in order of key
pub record TellsOf (desc : DescOf) (before : List DeliveryOf) (prepared : PreparedOf) : Type 0 where
  pub counts : prepared.counts ≡ counts_of desc before prepared.delivery
  pub asides : prepared.asides ≡ asides_of desc before prepared.delivery
  pub touched : (key : Key)
      → is_among prepared.touched key ≡ touches desc key before prepared.delivery
  pub in_order : IsStrictlySortedBy key_cmp prepared.touched

-- a delivery is refused exactly if its feed has accepted its number, with the place of that entry
abbrev pub IsLoadCause : {T : Type 0} → List LoadOf → DeliveryOf → Result T LoadFault → Type 0
IsLoadCause loads delivery (Ok _) = place_in loads delivery.feed delivery.number ≡ None
IsLoadCause loads delivery (Err (Repeat place)) =
    place_in loads delivery.feed delivery.number ≡ Some place
IsLoadCause loads delivery (Err Memory) = place_in loads delivery.feed delivery.number ≡ None
