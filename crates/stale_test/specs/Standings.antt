-- Where partitions of views stand, as it is kept.
use Rattle.std.specs.Prelude.{◌≡◌, ◌||◌, Bool, true, false, not, List, ℕ, nat_le, if◌then◌else◌}
use Rattle.std.specs.BTreeMap.{is_at}
use Rattle.std.specs.List.{filter, list_any}
use Rattle.std.specs.Map.{keys_of}
use Rattle.desc_types.specs.declared.table.Key.{Key}
use Rattle.desc_types.specs.Keys.{key_cmp}
use Rattle.stale_test.specs.declared.standing.Standing.{Standing}
use Rattle.stale_test.specs.declared.standing.Standing.TheVariants.{Place, Waits, Stale}
use Rattle.stale_test.specs.Histories.{Histories, history_in}
use Rattle.stale_test.specs.Places.{ChangesEach, value_in}

-- standings by key
abbrev pub Standings : Type 0
Standings = List (Key × Standing)

-- how a partition stands: one that has no place is settled
abbrev pub standing_in : Standings → Key → Standing
standing_in unsettled key = value_in Place unsettled key

-- whether a partition that stands so is stale
abbrev pub tells_stale : Standing → Bool
tells_stale Place = false
tells_stale Waits = false
tells_stale Stale = true

-- whether it is not settled
abbrev pub tells_unsettled : Standing → Bool
tells_unsettled Place = false
tells_unsettled Waits = true
tells_unsettled Stale = true

-- the partitions that are not settled, in order of key
abbrev pub unsettled_keys : Standings → List Key
unsettled_keys unsettled =
    keys_of (filter (λ (entry : Key × Standing). tells_unsettled entry.1) unsettled)

-- the worse one of two
abbrev pub worse : Standing → Standing → Standing
worse Place other = other
worse Waits Place = Waits
worse Waits Waits = Waits
worse Waits Stale = Stale
worse Stale other = Stale

-- these partitions stand at least so badly, and each other one as it stood
abbrev pub WakesEach : Standing → (keys : List Key) → (old new : Standings) → Type 0
WakesEach standing keys old new = ChangesEach (worse standing) Place keys old new

-- a partition stands like this, and each other one as it stood
abbrev pub SetsStanding : Key → Standing → (old new : Standings) → Type 0
SetsStanding key standing old new = (other : Key) → standing_in new other
    ≡ (if is_at (key_cmp key) other then standing else standing_in old other)

-- whether a partition changed after a place of the journal
abbrev pub has_changed : Histories → (at : ℕ) → Key → Bool
has_changed parts at key = not (nat_le (history_in parts key).changed at)

-- whether a source makes a partition that was installed with this place stand badly: it changed
-- after that place, or it is not settled itself
abbrev pub is_bad : Histories → Standings → (at : ℕ) → Key → Bool
is_bad parts unsettled at key =
    has_changed parts at key || tells_unsettled (standing_in unsettled key)

-- how a partition stands that was installed with this place, by its sources: it is stale if one
-- changed after the place, and it waits if one is not settled
pub record IsWorst (parts : Histories) (standings : Standings) (at : ℕ) (sources : List Key)
    (standing : Standing) : Type 0 where
  pub stale : tells_stale standing ≡ list_any (has_changed parts at) sources
  pub unsettled : tells_unsettled standing ≡ list_any (is_bad parts standings at) sources
