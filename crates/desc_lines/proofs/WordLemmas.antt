-- The words of a line, and the line of words.
use Rattle.std.proofs.Common.{◌≡◌, ◌<◌, ℕ, List, [], ◌∷◌, Bool, true, false, cond, filter}
use Rattle.std.proofs.Common.{not, refl, ap, length, arith}
use Rattle.std.specs.List.{AllByRecursion, onto_first, slice_split}
use Rattle.std.proofs.lemmas.List.Elements.{All-from_recursion}
use Rattle.std.proofs.lemmas.List.Splits.{slice_split_at, slice_split_none}
use Rattle.desc_lines.specs.Words.{IsWord, is_blank, is_empty, spaced, words}
use Rattle.desc_lines.proofs.ListLemmas.{each-append}

-- what has an item is not empty
not_empty : {X : Type 0} (items : List X) → 0 < length items → not (is_empty items) ≡ true
not_empty [] some = absurd (omega (arith, some))
not_empty (first ∷ others) some = refl

some-not_empty : {X : Type 0} (items : List X) → not (is_empty items) ≡ true → 0 < length items
some-not_empty [] test = absurd cc
some-not_empty (first ∷ others) test = omega arith

-- words with single spaces between them are these words again
pub words-spaced : (each : List (List ℕ)) → AllByRecursion IsWord each → words (spaced each) ≡ each
words-spaced [] are = refl
words-spaced (word ∷ []) are = rw (
  slice_split_none is_blank word (All-from_recursion _ word are.0.whole),
  not_empty word are.0.some,
) refl
words-spaced (word ∷ next ∷ others) are = rw (
  slice_split_at is_blank word 32 (spaced (next ∷ others)) (All-from_recursion _ word are.0.whole)
      refl,
  not_empty word are.0.some,
) (ap (λ others. word ∷ others) (words-spaced (next ∷ others) are.1))

-- an item in front of the first part
onto_first-each : {X : Type 0} (P : X → Type 0) (first : X) (parts : List (List X)) → P first
    → AllByRecursion (AllByRecursion P) parts
    → AllByRecursion (AllByRecursion P) (onto_first first parts)
onto_first-each P first [] here each = ((here, tt), tt)
onto_first-each P first (part ∷ parts) here each = ((here, each.0), each.1)

-- what is so of each item that does not split a list is so of each item of its parts
pub slice_split-each : {X : Type 0} (P : X → Type 0) (is_cut : X → Bool) (items : List X)
    → AllByRecursion (λ item. is_cut item ≡ false → P item) items
    → AllByRecursion (AllByRecursion P) (slice_split is_cut items)
slice_split-each P is_cut [] each = (tt, tt)
slice_split-each {X} P is_cut (first ∷ others) each =
    by_test (is_cut first) each.0 (slice_split-each P is_cut others each.1)
  where
    by_test : (test : Bool) → (test ≡ false → P first)
        → AllByRecursion (AllByRecursion P) (slice_split is_cut others)
        → AllByRecursion (AllByRecursion P) (cond test ([] ∷ slice_split is_cut others)
        (onto_first first (slice_split is_cut others)))
    by_test true here deeper = (tt, deeper)
    by_test false here deeper = onto_first-each P first _ (here refl) deeper

-- what is so of each item is so of each that passes a test
filter-each : {X : Type 0} (P Q : X → Type 0) (test : X → Bool) (items : List X)
    → ((item : X) → test item ≡ true → P item → Q item) → AllByRecursion P items
    → AllByRecursion Q (filter test items)
filter-each P Q test [] follows each = tt
filter-each {X} P Q test (first ∷ others) follows each =
    by_test (test first) (λ passes. follows first passes each.0)
    (filter-each P Q test others follows each.1)
  where
    by_test : (passes : Bool) → (passes ≡ true → Q first) → AllByRecursion Q (filter test others)
        → AllByRecursion Q (cond passes (first ∷ filter test others) (filter test others))
    by_test true here more = (here refl, more)
    by_test false here more = more

-- what is so of each item anyway
pub each-always : {X : Type 0} (P : X → Type 0) (items : List X) → ((item : X) → P item)
    → AllByRecursion P items
each-always P [] always = tt
each-always P (first ∷ others) always = (always first, each-always P others always)

-- the words of a line are words
pub words-are_words : (line : List ℕ) → AllByRecursion IsWord (words line)
words-are_words line = filter-each (AllByRecursion (λ byte. is_blank byte ≡ false)) IsWord
    (λ word. not (is_empty word)) (slice_split is_blank line)
    (λ word some whole. record { some = some-not_empty word some; whole = whole })
    (slice_split-each _ is_blank line (each-always _ line (λ byte whole. whole)))

-- what is so of each byte of a line is so of each byte of its words
pub words-each : (P : ℕ → Type 0) (line : List ℕ) → AllByRecursion P line
    → AllByRecursion (AllByRecursion P) (words line)
words-each P line each = filter-each _ _ (λ word. not (is_empty word)) (slice_split is_blank line)
    (λ word some each. each)
    (slice_split-each P is_blank line (weaker line each))
  where
    weaker : (bytes : List ℕ) → AllByRecursion P bytes
        → AllByRecursion (λ byte. is_blank byte ≡ false → P byte) bytes
    weaker [] each = tt
    weaker (first ∷ others) each = ((λ _. each.0), weaker others each.1)

-- what is so of a space and of each byte of words is so of each byte of their line
pub spaced-each : (P : ℕ → Type 0) (each : List (List ℕ)) → P 32
    → AllByRecursion (AllByRecursion P) each → AllByRecursion P (spaced each)
spaced-each P [] space are = tt
spaced-each P (word ∷ []) space are = are.0
spaced-each P (word ∷ next ∷ others) space are = each-append P word (32 ∷ spaced (next ∷ others))
    are.0 (space, spaced-each P (next ∷ others) space are.1)
