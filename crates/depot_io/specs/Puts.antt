-- What a sink gets of the bytes that are put into it, and the room that it tells.
use Rattle.std.specs.Prelude.{◌≡◌, ℕ, ◌-◌, ◌<◌, ◌≤◌, List, length}
use Rattle.std.specs.Prelude.{take, Result, Ok, IsOk, None, Some}
use Rattle.std.specs.declared.option.Option.{Option}
use Rattle.std.specs.Io.KnownBytes.{Appends}

-- known bytes grow by a front of these bytes, short of all
pub record GainsPrefix (old new : Option (List ℕ)) (bytes : List ℕ) : Type 0 where
  pub count : ℕ
  pub short : count < length bytes
  pub gained : Appends old new (take count bytes)

-- the room is told, and so many bytes fit
abbrev pub HasRoomFor : Option ℕ → ℕ → Type 0
HasRoomFor None count = ⊥
HasRoomFor (Some room) count = count ≤ room

-- the room that is left after so many bytes
abbrev pub room_after : Option ℕ → ℕ → Option ℕ
room_after None count = None
room_after (Some room) count = Some (room - count)

-- bytes that fit are taken whole by one put, which lowers the room by their length
abbrev pub TakesWithin : {E : Type 0} → Option ℕ → Option ℕ → List ℕ → Result ℕ E → Type 0
TakesWithin old new bytes result = HasRoomFor old (length bytes)
    → (result ≡ Ok (length bytes)) × (new ≡ room_after old (length bytes))

-- bytes that fit are all put, which lowers the room by their length
abbrev pub PutsWithin : {T E : Type 0} → Option ℕ → Option ℕ → List ℕ → Result T E → Type 0
PutsWithin old new bytes result = HasRoomFor old (length bytes)
    → IsOk result × (new ≡ room_after old (length bytes))
