-- The catalogue: a file of records, each after a gate byte. A record counts once its gate is open.
use Rattle.std.specs.Prelude.{◌≡◌, ◌≢◌, ◌<◌, ◌≤◌, ◌^◌, ◌⊎◌, ℕ, All, List, [], ◌∷◌, ◌++◌, length}
use Rattle.std.specs.Int.{w32, to_be_bytes}

-- the file of the catalogue, and the file that stands once a depot is made
abbrev pub CATALOG_FILE : ℕ
CATALOG_FILE = 0

abbrev pub MARK_FILE : ℕ
MARK_FILE = 2 ^ 32

-- how many records a catalogue has at most
abbrev pub MOST_RECORDS : ℕ
MOST_RECORDS = 2 ^ 32

-- the length of a body has four bytes
abbrev pub IsBody : List ℕ → Type 0
IsBody body = length body < 2 ^ 32

-- a body after its length, the highest byte first
abbrev pub spelled : List ℕ → List ℕ
spelled body = to_be_bytes w32 (length body) ++ body

-- a record as it is first written, after its own gate: its length, its body, and the closed gate of
-- the record after it
abbrev pub framed : List ℕ → List ℕ
framed body = spelled body ++ 0 ∷ []

-- records whose gates are open
abbrev pub open_records : List (List ℕ) → List ℕ
open_records [] = []
open_records (body ∷ bodies) = 1 ∷ spelled body ++ open_records bodies

-- the bytes are a catalogue of these bodies: record 0 and the others, with open gates, and then one
-- more gate. That is not open, or the records are as many as there may be. What follows it is not
-- looked at
pub record IsCatalog (bytes : List ℕ) (bodies : List (List ℕ)) : Type 0 where
  pub gate : ℕ
  pub rest : List ℕ
  pub whole : bytes ≡ open_records bodies ++ gate ∷ rest
  pub ends : (gate ≢ 1) ⊎ (length bodies ≡ MOST_RECORDS)
  pub each : All IsBody bodies
  pub some : 1 ≤ length bodies
  pub few : length bodies ≤ MOST_RECORDS

-- the bytes begin with an open gate, but no whole record and a gate after it
pub record IsCut (bytes : List ℕ) : Type 0 where
  pub rest : List ℕ
  pub begins : bytes ≡ 1 ∷ rest
  pub cut : (body : List ℕ) (gate : ℕ) (more : List ℕ) → IsBody body
      → rest ≢ spelled body ++ gate ∷ more

-- record 0 is missing or not open
abbrev pub LacksFirst : List (List ℕ) → List ℕ → Type 0
LacksFirst bodies rest = (bodies ≡ []) × ((more : List ℕ) → rest ≢ 1 ∷ more)

-- the bytes are no catalogue: after some open records, at this place, a record is cut, or record 0
-- is missing
pub record IsDamaged (bytes : List ℕ) (place : ℕ) : Type 0 where
  pub bodies : List (List ℕ)
  pub rest : List ℕ
  pub whole : bytes ≡ open_records bodies ++ rest
  pub at : place ≡ length (open_records bodies)
  pub few : length bodies < MOST_RECORDS
  pub each : All IsBody bodies
  pub fault : IsCut rest ⊎ LacksFirst bodies rest
