-- Aggregates: their words say them, and words that say aggregates are their words.
use Rattle.std.proofs.Common.{◌≡◌, ◌<◌, ◌∙◌, ℕ, Bor, List, [], ◌∷◌, Option, Some, None, codes}
use Rattle.std.proofs.Common.{refl, sym, ap, subst, flat_map, map, length, arith}
use Rattle.std.specs.List.{AllByRecursion}
use Rattle.std.proofs.lemmas.Option.{option_and_then_some, same_Some}
use Rattle.desc_lines.specs.declared.fun.Fun.{Fun}
use Rattle.desc_lines.specs.declared.fun.Fun.TheVariants as fun
use Rattle.desc_lines.specs.Written.{WrittenAggOf}
use Rattle.desc_lines.specs.Cuts.{cut_word, joined}
use Rattle.desc_lines.specs.Lines.{agg_named, agg_of, agg_over, aggs_of, colon, each_agg_of, fun_of}
use Rattle.desc_lines.specs.LineTexts.{agg_word, agg_words}
use Rattle.desc_lines.specs.Whole.{AreSome, IsWholeAgg}
use Rattle.desc_lines.proofs.ListLemmas.{if-word, option_map-some}
use Rattle.desc_lines.proofs.FrontLemmas.{AreSomeWordsOf, AreSomeWordsOf-some, AreWordsOf}
use Rattle.desc_lines.proofs.FrontLemmas.{if_some-said, with_first-some}
use Rattle.desc_lines.proofs.PartLemmas.{cut_word-joined, cut_word-some, fun_of-some}

-- what an aggregate computes of which column, as a word, says this with any name
agg_named-word : (fun : Fun) (column : Option (List ℕ)) (name : List ℕ)
    → IsWholeAgg (record { fun = fun; column = column; name = name })
    → agg_named (agg_word fun column) name
    ≡ Some (record { fun = fun; column = column; name = name })
agg_named-word fun.Count None name whole = refl
agg_named-word fun.Count (Some column) name whole = absurd cc
agg_named-word fun.Sum None name whole = absurd cc
agg_named-word fun.Least None name whole = absurd cc
agg_named-word fun.Greatest None name whole = absurd cc
agg_named-word fun.Sum (Some column) name whole = rw (cut_word-joined (codes "sum") colon column
    (refl, (refl, (refl, tt))) refl) refl
agg_named-word fun.Least (Some column) name whole = rw (cut_word-joined (codes "least") colon column
    (refl, (refl, (refl, (refl, (refl, tt))))) refl) refl
agg_named-word fun.Greatest (Some column) name whole =
    rw (cut_word-joined (codes "greatest") colon column
    (refl, (refl, (refl, (refl, (refl, (refl, (refl, (refl, tt)))))))) refl) refl

-- aggregates
each_agg_of-words : (aggs : List WrittenAggOf) → AllByRecursion IsWholeAgg aggs
    → each_agg_of (flat_map agg_words aggs) ≡ Some aggs
each_agg_of-words [] whole = refl
each_agg_of-words (first ∷ others) whole = rw (
  agg_named-word first.fun first.column first.name whole.0,
  each_agg_of-words others whole.1,
) refl

-- the aggregates of a group
pub aggs_of-words : (aggs : List WrittenAggOf) → AreSome IsWholeAgg aggs
    → aggs_of (flat_map agg_words aggs) ≡ Some aggs
aggs_of-words [] whole = absurd (omega (arith, whole.some))
aggs_of-words (first ∷ others) whole = each_agg_of-words (first ∷ others) whole.each

-- a word and a name that say an aggregate
pub record SaysAgg (word name : List ℕ) (agg : WrittenAggOf) : Type 0 where
  pub same : agg_word agg.fun agg.column ≡ word
  pub named : agg.name ≡ name
  pub whole : IsWholeAgg agg

-- a function and a column
SaysAgg-over : (word name left right : List ℕ) (agg : WrittenAggOf)
    → cut_word colon word ≡ Some (left, right) → agg_over (fun_of left) right name ≡ Some agg
    → SaysAgg word name agg
SaysAgg-over word name left right agg cut said =
    option_map-some _ (fun_of left) agg said (λ read there made.
    let is_cut = cut_word-some colon word left right cut in
    let is_fun = fun_of-some left read there in
    subst (SaysAgg word name) made (record {
      same = ap (λ left. joined left colon right) is_fun.same ∙ is_cut.same;
      named = refl;
      whole = sym is_fun.whole;
    }))

-- a count, or a function and a column
agg_named-some : (word name : List ℕ) (agg : WrittenAggOf) → agg_named word name ≡ Some agg
    → SaysAgg word name agg
agg_named-some word name agg said =
    if-word word (codes "count") _ _ agg said
    (λ same made. subst (SaysAgg word name) (same_Some _ _ made)
    (record { same = sym same; named = refl; whole = refl }))
    (λ said. option_and_then_some _ (cut_word colon word) agg said (λ parts cut made.
    SaysAgg-over word name parts.0 parts.1 agg cut made))

-- one more aggregate in front
AreWordsOf-agg : (word before_name name : List ℕ) (words : List (List ℕ)) (agg : WrittenAggOf)
    (aggs : List WrittenAggOf)
    → before_name ≡ codes "as" → SaysAgg word name agg
    → AreWordsOf (flat_map agg_words) IsWholeAgg words aggs
    → AreWordsOf (flat_map agg_words) IsWholeAgg (word ∷ before_name ∷ name ∷ words) (agg ∷ aggs)
AreWordsOf-agg word before_name name words agg aggs is_as says are = record {
  same = rw (says.same, says.named, is_as, are.same) refl;
  each = (says.whole, are.each);
}

-- words that say aggregates are the words of these aggregates
each_agg_of-some : (words : List (List ℕ)) (aggs : List WrittenAggOf)
    → each_agg_of words ≡ Some aggs → AreWordsOf (flat_map agg_words) IsWholeAgg words aggs
each_agg_of-some [] aggs said = subst (AreWordsOf (flat_map agg_words) IsWholeAgg [])
    (same_Some _ _ said) (record { same = refl; each = tt })
each_agg_of-some (word ∷ before_name ∷ name ∷ words) aggs said =
    with_first-some (agg_of word before_name name) (each_agg_of words) aggs said
    (λ first others here more made. if-word before_name (codes "as") _ _ first here
    (λ is_as here. subst
    (AreWordsOf (flat_map agg_words) IsWholeAgg (word ∷ before_name ∷ name ∷ words)) made
    (AreWordsOf-agg word before_name name words first others is_as
    (agg_named-some word name first here) (each_agg_of-some words others more)))
    (λ here. absurd cc))
each_agg_of-some _ aggs said = absurd cc

-- and so it is with those of a group
pub aggs_of-some : (words : List (List ℕ)) (aggs : List WrittenAggOf) → aggs_of words ≡ Some aggs
    → AreSomeWordsOf (flat_map agg_words) IsWholeAgg words aggs
aggs_of-some words aggs said = if_some-said words _ aggs said (λ some said.
    AreSomeWordsOf-some (flat_map agg_words) IsWholeAgg words aggs refl some
    (each_agg_of-some words aggs said))

-- one word or two say no aggregates
pub each_agg_of-none : (words : List (Bor (List ℕ))) → 0 < length words → length words < 3
    → each_agg_of (map (λ word. word.now) words) ≡ None
each_agg_of-none [] some few = absurd (omega arith)
each_agg_of-none (_ ∷ []) some few = refl
each_agg_of-none (_ ∷ _ ∷ []) some few = refl
each_agg_of-none (_ ∷ _ ∷ _ ∷ others) some few = absurd (omega arith)
