-- Selections: their words say them, and words that say a selection are its words.
use Rattle.std.proofs.Common.{◌≡◌, ◌<◌, ◌≤◌, ◌∙◌, ℕ, Bor, Bool, true, false, List, [], ◌∷◌, ◌++◌}
use Rattle.std.proofs.Common.{Option, Some, None, bytes_eq, codes, get_or, drop, map, length, refl}
use Rattle.std.proofs.Common.{sym, ap, ap₂, subst, arith, append_assoc}
use Rattle.std.specs.Prelude.{if◌then◌else◌}
use Rattle.std.proofs.lemmas.Option.{same_Some}
use Rattle.desc_lines.specs.Written.{WrittenCondOf}
use Rattle.desc_lines.specs.Cuts.{if_some}
use Rattle.desc_lines.specs.Lines.{SelectionOf, cond_of, last_cond, more_cond, selection_of}
use Rattle.desc_lines.specs.LineTexts.{cond_words, conds_words}
use Rattle.desc_lines.proofs.ListLemmas.{if-word, option_map-some}
use Rattle.desc_lines.proofs.FrontLemmas.{if_some-said, if_some-some}
use Rattle.desc_lines.proofs.PartLemmas.{cond_of-some, cond_of-words}

-- the words of a selection say it
pub selection_of-words : (first : WrittenCondOf) (others : List WrittenCondOf)
    (keep : List (List ℕ)) → 0 < length keep
    → selection_of (conds_words (first ∷ others) ++ codes "keep" ∷ keep)
    ≡ Some (record { conds = first ∷ others; keep = keep })
selection_of-words first [] keep some = rw (if_some-some keep _ some, cond_of-words first) refl
selection_of-words first (next ∷ others) keep some =
    rw (selection_of-words next others keep some, cond_of-words first) refl

-- the words of a selection
abbrev pub selection_words : SelectionOf → List (List ℕ)
selection_words selection = conds_words selection.conds ++ codes "keep" ∷ selection.keep

-- words that say a selection
pub record SaysSelection (words : List (List ℕ)) (selection : SelectionOf) : Type 0 where
  pub same : selection_words selection ≡ words
  pub conds : 0 < length selection.conds
  pub keep : 0 < length selection.keep

-- a condition before others has `and` after it
conds_words-step : (cond : WrittenCondOf) (others : List WrittenCondOf) → 0 < length others
    → conds_words (cond ∷ others) ≡ cond_words cond ++ codes "and" ∷ conds_words others
conds_words-step cond [] some = absurd (omega (arith, some))
conds_words-step cond (next ∷ others) some = refl

-- one more condition in front comes of a condition and a selection that are there
more_cond-some : {P : Type 0} (cond : Option WrittenCondOf) (rest : Option SelectionOf)
    (selection : SelectionOf) → more_cond cond rest ≡ Some selection
    → ((first : WrittenCondOf) (others : SelectionOf) → cond ≡ Some first → rest ≡ Some others
    → record others { conds = first ∷ others.conds } ≡ selection → P) → P
more_cond-some None rest selection made go = absurd cc
more_cond-some (Some first) None selection made go = absurd cc
more_cond-some (Some first) (Some others) selection made go =
    go first others refl refl (same_Some _ _ made)

-- the last condition and the columns after `keep`
SaysSelection-last : (column op literal : List ℕ) (keep : List (List ℕ)) (selection : SelectionOf)
    → last_cond (cond_of column op literal) keep ≡ Some selection
    → SaysSelection (column ∷ op ∷ literal ∷ codes "keep" ∷ keep) selection
SaysSelection-last column op literal keep selection said =
    if_some-said keep _ selection said (λ some said.
    option_map-some _ (cond_of column op literal) selection said (λ cond there made.
    subst (SaysSelection (column ∷ op ∷ literal ∷ codes "keep" ∷ keep)) made (record {
      same = ap (λ words. words ++ codes "keep" ∷ keep)
          (cond_of-some column op literal cond there);
      conds = omega arith;
      keep = some;
    })))

-- a condition before others
SaysSelection-more : (column op literal : List ℕ) (words : List (List ℕ)) (selection : SelectionOf)
    → ((others : SelectionOf) → selection_of words ≡ Some others → SaysSelection words others)
    → more_cond (cond_of column op literal) (selection_of words) ≡ Some selection
    → SaysSelection (column ∷ op ∷ literal ∷ codes "and" ∷ words) selection
SaysSelection-more column op literal words selection deeper said =
    more_cond-some (cond_of column op literal) (selection_of words) selection said
    (λ first others there more made. let rest = deeper others more in
    subst (SaysSelection (column ∷ op ∷ literal ∷ codes "and" ∷ words)) made (record {
      same = ap (λ words. words ++ codes "keep" ∷ others.keep)
          (conds_words-step first others.conds rest.conds)
          ∙ ap₂ (λ front back. front ++ codes "and" ∷ back)
          (cond_of-some column op literal first there) rest.same;
      conds = omega arith;
      keep = rest.keep;
    }))

-- words that say a selection are those of the selection
pub selection_of-some : (words : List (List ℕ)) (selection : SelectionOf)
    → selection_of words ≡ Some selection → SaysSelection words selection
selection_of-some (column ∷ op ∷ literal ∷ next ∷ words) selection said =
    if-word next (codes "keep") _ _ selection said
    (λ same said. subst (λ next. SaysSelection (column ∷ op ∷ literal ∷ next ∷ words) selection)
    (sym same) (SaysSelection-last column op literal words selection said))
    (λ said. if-word next (codes "and") _ _ selection said
    (λ same said. subst (λ next. SaysSelection (column ∷ op ∷ literal ∷ next ∷ words) selection)
    (sym same) (SaysSelection-more column op literal words selection
    (λ others more. selection_of-some words others more) said))
    (λ said. absurd cc))
selection_of-some _ selection said = absurd cc

-- conditions before those of a selection, if there is one
abbrev pub with_conds : List WrittenCondOf → Option SelectionOf → Option SelectionOf
with_conds front None = None
with_conds front (Some selection) = Some (record selection { conds = front ++ selection.conds })

-- the first condition of the rest goes to the front
with_conds-push : (front : List WrittenCondOf) (cond : WrittenCondOf) (rest : Option SelectionOf)
    → with_conds front (more_cond (Some cond) rest) ≡ with_conds (front ++ cond ∷ []) rest
with_conds-push front cond None = refl
with_conds-push front cond (Some rest) =
    ap (λ (conds : List WrittenCondOf). Some (record rest { conds = conds }))
    (sym (append_assoc front (cond ∷ []) rest.conds))

-- fewer than four words say no selection
pub selection_of-none : (words : List (Bor (List ℕ))) → length words < 4
    → selection_of (map (λ word. word.now) words) ≡ None
selection_of-none (_ ∷ _ ∷ _ ∷ _ ∷ others) few = absurd (omega arith)
selection_of-none _ few = refl

-- a condition with more after it
pub selection_of-step : (words : List (Bor (List ℕ))) (default : Bor (List ℕ))
    (front : List WrittenCondOf) (cond : WrittenCondOf)
    → 4 ≤ length words
    → Some cond ≡ cond_of (get_or words 0 default).now (get_or words 1 default).now
    (get_or words 2 default).now
    → bytes_eq (get_or words 3 default).now (codes "keep") ≡ false
    → bytes_eq (get_or words 3 default).now (codes "and") ≡ true
    → with_conds front (selection_of (map (λ word. word.now) words))
    ≡ with_conds (front ++ cond ∷ []) (selection_of (map (λ word. word.now) (drop 4 words)))
selection_of-step (_ ∷ _ ∷ _ ∷ _ ∷ others) default front cond enough said last more =
    rw (last, more, ← said) (with_conds-push front cond _)
selection_of-step _ default front cond enough said last more = absurd (omega arith)

-- words that begin with no condition say no selection
pub selection_of-no_cond : (words : List (Bor (List ℕ))) (default : Bor (List ℕ))
    → 4 ≤ length words
    → cond_of (get_or words 0 default).now (get_or words 1 default).now
    (get_or words 2 default).now ≡ None
    → selection_of (map (λ word. word.now) words) ≡ None
selection_of-no_cond (column ∷ op ∷ literal ∷ next ∷ others) default enough none =
    rw none (by_word (bytes_eq next.now (codes "keep")) (bytes_eq next.now (codes "and")) others)
  where
    by_word : (last more : Bool) (keep : List (Bor (List ℕ)))
        → (if last then last_cond None (map (λ word. word.now) keep)
        else if more then more_cond None (selection_of (map (λ word. word.now) others)) else None)
        ≡ None
    by_word true more [] = refl
    by_word true more (first ∷ keep) = refl
    by_word false true keep = refl
    by_word false false keep = refl
selection_of-no_cond _ default enough none = absurd (omega arith)

-- a last condition with the kept columns
pub selection_of-last : (words : List (Bor (List ℕ))) (default : Bor (List ℕ))
    (front : List WrittenCondOf) (cond : WrittenCondOf)
    → 4 ≤ length words
    → Some cond ≡ cond_of (get_or words 0 default).now (get_or words 1 default).now
    (get_or words 2 default).now
    → bytes_eq (get_or words 3 default).now (codes "keep") ≡ true
    → with_conds front (selection_of (map (λ word. word.now) words))
    ≡ if_some (drop 4 words)
    (Some (record { conds = front ++ cond ∷ []; keep = map (λ word. word.now) (drop 4 words) }))
selection_of-last (_ ∷ _ ∷ _ ∷ _ ∷ []) default front cond enough said last = rw last refl
selection_of-last (_ ∷ _ ∷ _ ∷ _ ∷ first ∷ keep) default front cond enough said last =
    rw (last, ← said) refl
selection_of-last _ default front cond enough said last = absurd (omega arith)
