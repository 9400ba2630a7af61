-- What a disk holds, or a stop leaves of it: the bytes of each file.
use Rattle.std.specs.Prelude.{◌≡◌, ◌≢◌, ◌+◌, ◌==◌, ℕ, if◌then◌else◌, List, [], ◌++◌, length}
use Rattle.std.specs.Prelude.{take, drop, None, Some, unwrap_or}
use Rattle.std.specs.declared.option.Option.{Option}

-- the bytes of each file by its number, and none if the file is absent
abbrev pub Image : Type 0
Image = ℕ → Option (List ℕ)

-- the bytes of a file; an absent one has none
abbrev pub bytes_in : Image → ℕ → List ℕ
bytes_in image file = unwrap_or (image file) []

-- the image with this in the place of one file
abbrev pub with_file : Image → ℕ → Option (List ℕ) → Image
with_file image file content other = if other == file then content else image other

-- bytes with others put over them from a place on
abbrev pub overwritten : List ℕ → ℕ → List ℕ → List ℕ
overwritten old at bytes = take at old ++ bytes ++ drop (at + length bytes) old

-- the image with bytes put over those of a file, which is made if it is absent
abbrev pub written : ℕ → ℕ → List ℕ → Image → Image
written file at bytes image =
    with_file image file (Some (overwritten (bytes_in image file) at bytes))

-- the image without a file
abbrev pub without : ℕ → Image → Image
without file image = with_file image file None

-- every other file is as it was
abbrev pub SameElsewhere : ℕ → Image → Image → Type 0
SameElsewhere file old new = (other : ℕ) → other ≢ file → new other ≡ old other
