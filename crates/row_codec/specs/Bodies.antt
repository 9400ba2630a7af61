-- The bytes of an entry's body, and which body some bytes are.
use Rattle.std.specs.Prelude.{ℕ, ◌<◌, ◌^◌, ◌==◌, List, [], ◌∷◌, ◌++◌, Result, Ok, Err, length}
use Rattle.std.specs.Prelude.{if◌then◌else◌}
use Rattle.row_codec.specs.declared.body.Body.{Body}
use Rattle.row_codec.specs.declared.body.Body.TheVariants.{Load, Install}
use Rattle.row_codec.specs.Reading.{Reader, ◌>>=◌, number_at, whole}
use Rattle.row_codec.specs.Spelling.{number_bytes}

-- a load is the byte 1 and the length of its content; an install is the byte 2, its table, its
-- partition, the place of its claim and the length of its content
abbrev pub body_bytes : Body → List ℕ
body_bytes (Load len) = 1 ∷ number_bytes 8 len
body_bytes (Install key at len) =
    2 ∷ number_bytes 2 key.table ++ number_bytes 8 key.part ++ number_bytes 8 at
    ++ number_bytes 8 len

-- a load after its first byte
unfoldable pub load_at : Reader Body
load_at bytes = do
  len ← number_at 8 bytes
  Ok (Load len.0, len.1)

-- an install after its first byte
unfoldable pub install_at : Reader Body
install_at bytes = do
  table ← number_at 2 bytes
  part ← number_at 8 table.1
  at ← number_at 8 part.1
  len ← number_at 8 at.1
  Ok (Install (record { table = table.0; part = part.0 }) at.0 len.0, len.1)

-- a body
unfoldable pub body_at : Reader Body
body_at [] = Err 0
body_at (kind ∷ bytes) =
    if kind == 1 then load_at bytes
    else if kind == 2 then install_at bytes
    else Err (length (kind ∷ bytes))

-- the body that bytes are
abbrev pub read_body : List ℕ → Result Body ℕ
read_body = whole body_at

-- its numbers have so many bits
abbrev pub IsBody : Body → Type 0
IsBody (Load len) = len < 2 ^ 64
IsBody (Install key at len) =
    (key.table < 2 ^ 16) × (key.part < 2 ^ 64) × (at < 2 ^ 64) × (len < 2 ^ 64)
