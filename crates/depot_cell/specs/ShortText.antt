-- What a short text is.
use Rattle.std.specs.Prelude.{List, ℕ, ◌≤◌, length}
use Rattle.std.specs.Str.{IsUtf8}

-- UTF-8 of at most 255 bytes
pub record IsShortText (bytes : List ℕ) : Type 0 where
  pub utf8 : IsUtf8 bytes
  pub short : length bytes ≤ 255
