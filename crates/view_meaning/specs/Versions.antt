-- Versions: how often the rows of a partition have changed.
use Rattle.std.specs.Prelude.{ℕ, ◌+◌, List, [], ◌∷◌, ◌++◌, Option, Some, None, Bool, true, false}
use Rattle.std.specs.Prelude.{◌&&◌, ◌==◌, if◌then◌else◌, length, map, filter, fold, take, get_or}
use Rattle.std.specs.Prelude.{slice_get}
use Rattle.std.specs.List.{list_any}
use Rattle.desc_types.specs.declared.table.Key.{Key}
use Rattle.desc_types.specs.Deliveries.{DeliveryOf}
use Rattle.desc_types.specs.Descriptions.{DescOf}
use Rattle.desc_types.specs.Tables.{TableOf}
use Rattle.desc_types.specs.KindValues.{KindOf, Raw, Filter, Group, Join}
use Rattle.view_meaning.specs.declared.journal.Entry.{Entry}
use Rattle.view_meaning.specs.declared.journal.Entry.TheVariants as entry
use Rattle.view_meaning.specs.Partitions.{sources_of}
use Rattle.view_meaning.specs.Journal.{accepted}
use Rattle.view_meaning.specs.SetAside.{kept_rows}
use Rattle.view_meaning.specs.RawValues.{lies_in}

-- whether a delivery keeps a row in the partition, if these were accepted before it
abbrev pub touches : DescOf → Key → List DeliveryOf → DeliveryOf → Bool
touches desc key before delivery = list_any (lies_in desc key) (kept_rows desc before delivery)

-- how many of the deliveries that were accepted one by one after those before keep a row in the
-- partition
abbrev pub loads_after : DescOf → Key → (before accepted : List DeliveryOf) → ℕ
loads_after desc key before [] = 0
loads_after desc key before (delivery ∷ later) =
    (if touches desc key before delivery then 1 else 0)
    + loads_after desc key (before ++ delivery ∷ []) later

-- the version of a raw partition: the number of accepted deliveries that kept a row in it
abbrev pub raw_version : DescOf → List DeliveryOf → Key → ℕ
raw_version desc accepted key = loads_after desc key [] accepted

-- whether an entry installs the partition
abbrev pub installs : Key → Entry → Bool
installs key (entry.Load _) = false
installs key (entry.Install installed _) =
    (installed.table == key.table) && (installed.part == key.part)

-- the place of an install: how many entries its sources counted
abbrev pub place_of : Entry → ℕ
place_of (entry.Load _) = 0
place_of (entry.Install _ at) = at

-- the places of the installs of the partition, in order
abbrev pub install_places : List Entry → Key → List ℕ
install_places journal key = map place_of (filter (installs key) journal)

-- whether a table is raw
abbrev pub is_raw_kind : KindOf → Bool
is_raw_kind (Raw _ _) = true
is_raw_kind (Filter _ _ _) = false
is_raw_kind (Group _ _ _) = false
is_raw_kind (Join _ _ _) = false

-- whether there is such a table and it is raw
abbrev pub is_raw : Option TableOf → Bool
is_raw None = false
is_raw (Some table) = is_raw_kind table.kind

-- the version of a partition after a journal: of a view, the number of its installs
abbrev pub version : DescOf → List Entry → Key → ℕ
version desc journal key =
    if is_raw (slice_get desc.tables key.table) then raw_version desc (accepted journal) key
    else length (install_places journal key)

-- the place of an install of the partition, counted from 0
abbrev pub nth_place : List Entry → Key → (number : ℕ) → ℕ
nth_place journal key number = get_or (install_places journal key) number 0

-- the place of the last install of the partition, or 0
abbrev pub last_place : List Entry → Key → ℕ
last_place journal key = fold (λ _ place. place) 0 (install_places journal key)

-- the versions of the sources of the partition
abbrev pub current : DescOf → List Entry → Key → List ℕ
current desc journal key = map (version desc journal) (sources_of desc key)

-- the versions that the sources had at the last install of the partition
abbrev pub recorded : DescOf → List Entry → Key → List ℕ
recorded desc journal key = current desc (take (last_place journal key) journal) key
