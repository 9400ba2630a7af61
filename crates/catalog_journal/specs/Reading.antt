-- What a catalogue is read as, from its front.
use Rattle.std.specs.Prelude.{ℕ, zero, suc, ◌+◌, ◌==◌, List, [], ◌∷◌, ◌++◌, Result, Ok, Err, length, take}
use Rattle.std.specs.Prelude.{drop, nat_lt, if◌then◌else◌}
use Rattle.std.specs.Int.{w32, from_be_bytes}
use Rattle.catalog_journal.specs.Catalog.{MOST_RECORDS}

-- the length that stands in front
abbrev pub size_in : List ℕ → ℕ
size_in bytes = from_be_bytes w32 (take 4 bytes)

-- one body more before those that are read after it
abbrev pub with_first : List ℕ → Result (List (List ℕ)) ℕ → Result (List (List ℕ)) ℕ
with_first body (Ok bodies) = Ok (body ∷ bodies)
with_first body (Err place) = Err place

-- the bodies of the open records in front, at most so many, where the first gate stands at this
-- place of the file; or the place of the first record that is not whole with a gate after it
unfoldable pub read_records : (most place : ℕ) → List ℕ → Result (List (List ℕ)) ℕ
read_records most place [] = Err place
read_records zero place (gate ∷ rest) = Ok []
read_records (suc most) place (gate ∷ rest) =
    if gate == 1 then
    (if nat_lt (4 + size_in rest) (length rest) then
    with_first (take (size_in rest) (drop 4 rest))
    (read_records most (place + (5 + size_in rest)) (drop (4 + size_in rest) rest))
    else Err place)
    else Ok []

-- a catalogue has record 0
abbrev pub at_least_one : Result (List (List ℕ)) ℕ → Result (List (List ℕ)) ℕ
at_least_one (Ok []) = Err 0
at_least_one (Ok (body ∷ bodies)) = Ok (body ∷ bodies)
at_least_one (Err place) = Err place

-- the bodies of a catalogue, or the place of its first fault
abbrev pub read_catalog : List ℕ → Result (List (List ℕ)) ℕ
read_catalog bytes = at_least_one (read_records MOST_RECORDS 0 bytes)

-- these bodies before those that are read after them
abbrev pub with_all : List (List ℕ) → Result (List (List ℕ)) ℕ → Result (List (List ℕ)) ℕ
with_all bodies (Ok more) = Ok (bodies ++ more)
with_all bodies (Err place) = Err place
