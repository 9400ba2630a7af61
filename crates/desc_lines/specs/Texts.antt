-- The lines of a text.
use Rattle.std.specs.Prelude.{ℕ, ◌≡◌, List, [], ◌∷◌, Bool, false, ◌==◌}
use Rattle.std.specs.List.{AllByRecursion, slice_split}
use Rattle.std.specs.Io.BufRead.{ends_with_byte, strip_last}
use Rattle.desc_lines.specs.Words.{IsWord, Lacks}

-- the lines of the pieces between LFs: one CR is dropped before each LF, and the last piece stays
-- whole
abbrev pub ended : List (List ℕ) → List (List ℕ)
ended [] = []
ended (last ∷ []) = last ∷ []
ended (piece ∷ next ∷ others) = strip_last 13 piece ∷ ended (next ∷ others)

-- the lines of a text: there is one more than there are LFs
abbrev pub lines_of : List ℕ → List (List ℕ)
lines_of text = ended (slice_split (λ byte. byte == 10) text)

-- whether the last word ends in CR
abbrev pub ends_in_cr : List (List ℕ) → Bool
ends_in_cr [] = false
ends_in_cr (word ∷ []) = ends_with_byte 13 word
ends_in_cr (word ∷ next ∷ others) = ends_in_cr (next ∷ others)

-- words that are those of a line of a text
pub record AreLineWords (words : List (List ℕ)) : Type 0 where
  pub each : AllByRecursion IsWord words
  pub whole : AllByRecursion (Lacks 10) words
  pub ended : ends_in_cr words ≡ false
