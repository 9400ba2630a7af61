-- The rule by which `after_stop` picks what a stop leaves of a file, by the file's life.
use Rattle.std.specs.Prelude.{◌+◌, ◌-◌, ◌%◌, ◌==◌, ◌&&◌, ◌||◌, ℕ, Bool, true, false, nat_le}
use Rattle.std.specs.Prelude.{nat_lt, if◌then◌else◌, List, [], ◌∷◌, length, None, Some, option_map}
use Rattle.std.specs.declared.option.Option.{Option}
use Rattle.depot_disk.specs.Life.{Change, Removed, Synced, Wrote, content_of}

-- what the file held at its last sync, or before its life if there was none
abbrev pub before_of : List Change → Option (List ℕ)
before_of [] = None
before_of (Wrote at bytes ∷ older) = before_of older
before_of (Synced ∷ older) = content_of older
before_of (Removed ∷ older) = before_of older

-- whether a change of a file with this name is a sync of the file
abbrev pub is_sync_of : ℕ → ℕ → Change → Bool
is_sync_of file name (Wrote at bytes) = false
is_sync_of file name Synced = file == name
is_sync_of file name Removed = false

-- whether a place is not as it was at the last sync, if it was or was not before this change
abbrev pub touches : Change → ℕ → Bool → Bool
touches (Wrote at bytes) place was = (nat_le at place && nat_lt (place - at) (length bytes)) || was
touches Synced place was = false
touches Removed place was = true

-- whether a place was written since the last sync, or the file was removed since
abbrev pub is_touched : List Change → ℕ → Bool
is_touched [] place = false
is_touched (change ∷ older) place = touches change place (is_touched older place)

-- the byte that a pick puts at a touched place
abbrev pub pick_byte : ℕ → ℕ → ℕ
pick_byte pick place = (pick + place) % 256

-- bytes from a place on, with the pick's own byte at each touched place
abbrev pub scrambled : (ℕ → Bool) → ℕ → ℕ → List ℕ → List ℕ
scrambled touched pick place [] = []
scrambled touched pick place (byte ∷ bytes) =
    (if touched place then pick_byte pick place else byte)
    ∷ scrambled touched pick (place + 1) bytes

-- what is there, or else the other
abbrev pub there_or : Option (List ℕ) → Option (List ℕ) → Option (List ℕ)
there_or None other = other
there_or (Some bytes) other = Some bytes

-- what a pick leaves of a file. Pick 0: nothing since the last sync was done. Pick 1: all of it was.
-- Any other: the file as it is, or if it was removed as it was before, with bytes of the pick's
-- own at each place that was touched since
abbrev pub picked : ℕ → List Change → Option (List ℕ)
picked pick life =
    if pick == 0 then before_of life else
    if pick == 1 then content_of life else
    option_map (scrambled (is_touched life) pick 0) (there_or (content_of life) (before_of life))
