-- Names of columns under a prefix.
use Rattle.std.proofs.Common.{◌≡◌, ℕ, ◌≤◌, ◌++◌, List, length, length-append, arith}
use Rattle.std.specs.Str.{IsUtf8}
use Rattle.std.proofs.lemmas.Str.{IsUtf8-append}
use Rattle.depot_cell.specs.ShortText.{IsShortText}

-- a short text under a prefix of two bytes is one, if there is room
pub IsShortText-prefixed : (prefix name : List ℕ) → length prefix ≡ 2 → IsUtf8 prefix
    → IsShortText name → length name ≤ 253 → IsShortText (prefix ++ name)
IsShortText-prefixed prefix name two text short room = record {
  utf8 = IsUtf8-append prefix name text short.utf8;
  short = omega (arith, length-append prefix name);
}
