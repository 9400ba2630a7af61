-- How what is kept of partitions changes.
use Rattle.std.specs.Prelude.{◌≡◌, ℕ, List, [], ◌∷◌, All, if◌then◌else◌}
use Rattle.std.specs.BTreeMap.{is_at}
use Rattle.desc_types.specs.declared.table.Key.{Key}
use Rattle.desc_types.specs.Descriptions.{DescOf}
use Rattle.desc_types.specs.Keys.{key_cmp}
use Rattle.view_meaning.specs.Partitions.{is_among, sources_of}
use Rattle.stale_test.specs.declared.kept.Kept.{Kept}
use Rattle.stale_test.specs.declared.ready.Ready.{Ready}
use Rattle.stale_test.specs.declared.standing.Standing.{Standing}
use Rattle.stale_test.specs.declared.standing.Standing.TheVariants.{Place, Waits, Stale}
use Rattle.stale_test.specs.Histories.{Histories, installed, no_history, raised}
use Rattle.stale_test.specs.Places.{ChangesEach, HasPlace, KeepsValues}
use Rattle.stale_test.specs.Standings.{IsWorst, Standings, standing_in, worse}

-- what a walk upwards found: the readers of what it began at, and all that rests on that
pub record ReadyOf : Type 0 where
  pub readers : List Key
  pub above : List Key

-- with lists for vectors
abbrev pub ready_of : Ready → ReadyOf
ready_of ready = record { readers = ready.readers.items; above = ready.above.items }

-- each key has a place among the histories, and all that a walk found has one among the standings
pub record HasPlacesFor (keys : List Key) (ready : ReadyOf) (parts : Histories)
    (unsettled : Standings) : Type 0 where
  pub changed : All (HasPlace parts) keys
  pub readers : All (HasPlace unsettled) ready.readers
  pub above : All (HasPlace unsettled) ready.above

-- all is told as it was
pub record KeepsAll (old new : Kept) : Type 0 where
  pub parts : KeepsValues no_history old.parts.entries new.parts.entries
  pub unsettled : KeepsValues Place old.unsettled.entries new.unsettled.entries

-- how a partition stands after what a walk began at has changed: the readers of that are stale, and
-- all else above it waits, if it is not stale
abbrev pub woken : ReadyOf → Key → Standing → Standing
woken ready key standing = if is_among ready.readers key then Stale
    else if is_among ready.above key then worse Waits standing else standing

-- each partition stands as it does after that
pub record Wakes (ready : ReadyOf) (old new : Standings) : Type 0 where
  pub values : (key : Key) → standing_in new key ≡ woken ready key (standing_in old key)
  pub places : (key : Key) → HasPlace old key → HasPlace new key

-- the entry with this number changed these partitions
pub record Raises (keys : List Key) (entry : ℕ) (ready : ReadyOf) (old new : Kept) : Type 0 where
  pub parts : ChangesEach (raised entry) no_history keys old.parts.entries new.parts.entries
  pub unsettled : Wakes ready old.unsettled.entries new.unsettled.entries

-- the entry with this number installed a partition with this place: it stands as its sources let it
pub record Installs (desc : DescOf) (key : Key) (at entry : ℕ) (ready : ReadyOf)
    (old new : Kept) : Type 0 where
  pub parts : ChangesEach (installed entry at) no_history (key ∷ [])
      old.parts.entries new.parts.entries
  pub standing : Standing
  pub worst : IsWorst old.parts.entries old.unsettled.entries at (sources_of desc key) standing
  pub unsettled : (other : Key) → standing_in new.unsettled.entries other
      ≡ (if is_at (key_cmp key) other then standing
      else woken ready other (standing_in old.unsettled.entries other))
