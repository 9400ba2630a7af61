-- What a reading of a file from its first byte on puts into a piece.
use Rattle.std.specs.Prelude.{◌≡◌, ◌≤◌, ℕ, min, List, length, take}

-- the front of the piece has so many bytes of the file: all of them, or as many as there is room for
pub record IsFront (bytes : List ℕ) (many : ℕ) (into : List ℕ) : Type 0 where
  pub count : many ≡ min (length into) (length bytes)
  pub front : take many into ≡ take many bytes

-- the front of the piece has the file's first bytes, so many of them
pub record HasFront (bytes : List ℕ) (done : ℕ) (into : List ℕ) : Type 0 where
  pub fits : done ≤ length into
  pub there : done ≤ length bytes
  pub front : take done into ≡ take done bytes
