-- The words of a line, and the lines that declare nothing.
use Rattle.std.specs.Prelude.{ℕ, ◌≡◌, ◌<◌, List, [], ◌∷◌, Bool, true, false, ◌==◌, ◌||◌, not}
use Rattle.std.specs.Prelude.{codes, filter, length}
use Rattle.std.specs.Str.{bytes_eq}
use Rattle.std.specs.List.{AllByRecursion, join_with_byte, slice_split}

-- a space or a tab: CR and other bytes belong to words
abbrev pub is_blank : ℕ → Bool
is_blank byte = (byte == 32) || (byte == 9)

-- whether there is nothing
abbrev pub is_empty : {X : Type 0} → List X → Bool
is_empty [] = true
is_empty (_ ∷ _) = false

-- the words of a line: what stands between its blanks
abbrev pub words : List ℕ → List (List ℕ)
words line = filter (λ word. not (is_empty word)) (slice_split is_blank line)

-- the line with these words: a single space stands between two
abbrev pub spaced : List (List ℕ) → List ℕ
spaced words = join_with_byte 32 words

-- a list in which a sign does not occur
abbrev pub Lacks : (sign : ℕ) → List ℕ → Type 0
Lacks sign word = AllByRecursion (λ byte. (byte == sign) ≡ false) word

-- what can be a word: one byte at least, and no blank
pub record IsWord (word : List ℕ) : Type 0 where
  pub some : 0 < length word
  pub whole : AllByRecursion (λ byte. is_blank byte ≡ false) word

-- whether a word begins with `#`
abbrev pub begins_comment : List ℕ → Bool
begins_comment [] = false
begins_comment (first ∷ _) = first == 35

-- whether a line of these words is skipped: it has none, or is a comment
abbrev pub is_skipped : List (List ℕ) → Bool
is_skipped [] = true
is_skipped (first ∷ _) = begins_comment first

-- whether these are the words of the line that ends a description: only `go`
abbrev pub is_go : List (List ℕ) → Bool
is_go (word ∷ []) = bytes_eq word (codes "go")
is_go _ = false
