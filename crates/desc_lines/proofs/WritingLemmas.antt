-- The text of a line, word by word.
use Rattle.std.proofs.Common.{◌≡◌, ◌∙◌, ◌≤◌, ℕ, List, [], ◌∷◌, ◌++◌, codes, drop, flat_map, get_or}
use Rattle.std.proofs.Common.{length, refl, sym, ap, ap₂, append-nil, append_assoc, arith}
use Rattle.std.proofs.lemmas.Grind.{flat_map-append}
use Rattle.desc_lines.specs.Written.{WrittenCondOf}
use Rattle.desc_lines.specs.Words.{spaced}
use Rattle.desc_lines.specs.LineTexts.{cond_words, conds_words, spaced_after}

-- a line is its first word, and the others with a space before each
spaced-first : (first : List ℕ) (others : List (List ℕ))
    → spaced (first ∷ others) ≡ first ++ spaced_after others
spaced-first first [] = sym (append-nil first)
spaced-first first (next ∷ others) = ap (λ rest. first ++ 32 ∷ rest) (spaced-first next others)

-- words after words
pub spaced_after-append : (front : List ℕ) (words more : List (List ℕ)) (old new : List ℕ)
    → old ≡ front ++ spaced_after words → new ≡ old ++ spaced_after more
    → new ≡ front ++ spaced_after (words ++ more)
spaced_after-append front words more old new before after = after
    ∙ ap (λ old. old ++ spaced_after more) before
    ∙ append_assoc front (spaced_after words) (spaced_after more)
    ∙ ap (λ rest. front ++ rest) (sym (flat_map-append (λ word. 32 ∷ word) words more))

-- a line with words after it
pub spaced-append : (first : List ℕ) (words more : List (List ℕ)) (old new : List ℕ)
    → old ≡ spaced (first ∷ words) → new ≡ old ++ spaced_after more
    → new ≡ spaced (first ∷ words ++ more)
spaced-append first words more old new before after =
    spaced_after-append first words more old new (before ∙ spaced-first first words) after
    ∙ sym (spaced-first first (words ++ more))

-- a line with a word after it, and then with a list
pub spaced-list : (first : List ℕ) (words : List (List ℕ)) (word : List ℕ) (list : List (List ℕ))
    (old middle new : List ℕ)
    → old ≡ spaced (first ∷ words) → middle ≡ old ++ 32 ∷ word
    → new ≡ middle ++ spaced_after list
    → new ≡ spaced (first ∷ words ++ word ∷ list)
spaced-list first words word list old middle new before between after =
    spaced-append first words (word ∷ list) old new before
    (after ∙ ap (λ middle. middle ++ spaced_after list) between
    ∙ append_assoc old (32 ∷ word) (spaced_after list))

-- conditions are the first one, and the others with `and` before each
conds_words-first : (first : WrittenCondOf) (others : List WrittenCondOf)
    → conds_words (first ∷ others)
    ≡ cond_words first ++ flat_map (λ cond. codes "and" ∷ cond_words cond) others
conds_words-first first [] = refl
conds_words-first first (next ∷ others) =
    ap (λ rest. cond_words first ++ codes "and" ∷ rest) (conds_words-first next others)

-- conditions after a line: the first one, and then the others
pub spaced_after-conds : (front : List ℕ) (conds : List WrittenCondOf) (first : WrittenCondOf)
    (others : List WrittenCondOf) (old new : List ℕ)
    → 1 ≤ length conds → first ≡ get_or conds 0 first → others ≡ drop 1 conds
    → old ≡ front ++ spaced_after (cond_words first)
    → new ≡ old ++ spaced_after (flat_map (λ cond. codes "and" ∷ cond_words cond) others)
    → new ≡ front ++ spaced_after (conds_words conds)
spaced_after-conds front [] first others old new some is_first are_others before after =
    absurd (omega (arith, some))
spaced_after-conds front (cond ∷ conds) first others old new some is_first are_others before after =
    spaced_after-append front (cond_words first)
    (flat_map (λ cond. codes "and" ∷ cond_words cond) others) old new before after
    ∙ ap (λ words. front ++ spaced_after words) (sym (conds_words-first first others)
    ∙ ap₂ (λ first others. conds_words (first ∷ others)) is_first are_others)
