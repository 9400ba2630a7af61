-- What fills a view: words that say it are its words, and it is whole.
use Rattle.std.proofs.Common.{◌≡◌, ◌∙◌, ℕ, List, ◌∷◌, ◌++◌, Some, codes, refl, sym, ap, ap₂, subst}
use Rattle.std.specs.List.{AllByRecursion}
use Rattle.std.specs.Cmp.Lexicographic.{same_text}
use Rattle.std.proofs.lemmas.Option.{option_and_then_some}
use Rattle.desc_lines.specs.Written.{WrittenKindOf}
use Rattle.desc_lines.specs.Cuts.{cut_at}
use Rattle.desc_lines.specs.Lines.{aggs_of, filter_of, group_of, grouped, is_agg, join_of, pair_of}
use Rattle.desc_lines.specs.Lines.{pairs_of, selection_of, source_of, view_kind_of}
use Rattle.desc_lines.specs.LineTexts.{pair_word, table_words}
use Rattle.desc_lines.specs.Whole.{IsWholeKey, IsWholeKind, IsWholePair}
use Rattle.desc_lines.proofs.ListLemmas.{if-word, option_map-some}
use Rattle.desc_lines.proofs.CutLemmas.{cut_at-some}
use Rattle.desc_lines.proofs.FrontLemmas.{if_some-said, some_of-some}
use Rattle.desc_lines.proofs.PartLemmas.{pair_of-some}
use Rattle.desc_lines.proofs.SelectionLemmas.{selection_of-some}
use Rattle.desc_lines.proofs.AggLemmas.{aggs_of-some}

-- what fills a view is written in these words, after the view's name and width
pub record IsKindOf (words : List (List ℕ)) (kind : WrittenKindOf) : Type 0 where
  pub same : (name width : List ℕ)
      → table_words name width kind ≡ codes "view" ∷ name ∷ codes "width" ∷ width ∷ words
  pub whole : IsWholeKind kind

-- a filter
filter_of-some : (words : List (List ℕ)) (kind : WrittenKindOf) → filter_of words ≡ Some kind
    → IsKindOf (codes "filter" ∷ words) kind
filter_of-some (table ∷ lo ∷ hi ∷ given ∷ words) kind said =
    if-word given (codes "where") _ _ kind said (λ same said.
    option_map-some _ (selection_of words) kind said (λ selection there made.
    let says = selection_of-some words selection there in
    subst (IsKindOf (codes "filter" ∷ table ∷ lo ∷ hi ∷ given ∷ words)) made (record {
      same = λ name width. rw (same, says.same) refl;
      whole = (says.conds, says.keep);
    })))
    (λ said. absurd cc)
filter_of-some _ kind said = absurd cc

-- a group by these keys
grouped-some : (table lo hi : List ℕ) (keys after : List (List ℕ)) (kind : WrittenKindOf)
    → AllByRecursion IsWholeKey keys
    → grouped (source_of table lo hi) keys (aggs_of after) ≡ Some kind
    → IsKindOf (codes "group" ∷ table ∷ lo ∷ hi ∷ codes "by" ∷ keys ++ codes "agg" ∷ after) kind
grouped-some table lo hi keys after kind each said =
    if_some-said keys _ kind said (λ some said.
    option_map-some _ (aggs_of after) kind said (λ aggs there made.
    let says = aggs_of-some after aggs there in
    subst (IsKindOf (codes "group" ∷ table ∷ lo ∷ hi ∷ codes "by" ∷ keys ++ codes "agg" ∷ after))
    made (record {
      same = λ name width. rw says.same refl;
      whole = (record { some = some; each = each }, says.are);
    })))

-- a group
group_of-some : (words : List (List ℕ)) (kind : WrittenKindOf) → group_of words ≡ Some kind
    → IsKindOf (codes "group" ∷ words) kind
group_of-some (table ∷ lo ∷ hi ∷ by ∷ words) kind said =
    if-word by (codes "by") _ _ kind said (λ same said.
    option_and_then_some _ (cut_at is_agg words) kind said (λ parts cut said.
    let is_cut = cut_at-some is_agg words parts.0 parts.1 cut in
    let agg : is_cut.sign ≡ codes "agg" = same_text is_cut.sign (codes "agg") (sym is_cut.cuts) in
    subst (λ words. IsKindOf (codes "group" ∷ table ∷ lo ∷ hi ∷ words) kind)
    (ap₂ (λ by words. by ∷ words) (sym same)
    (ap (λ sign. parts.0 ++ sign ∷ parts.1) (sym agg) ∙ is_cut.same))
    (grouped-some table lo hi parts.0 parts.1 kind is_cut.none said)))
    (λ said. absurd cc)
group_of-some _ kind said = absurd cc

-- a join
join_of-some : (words : List (List ℕ)) (kind : WrittenKindOf) → join_of words ≡ Some kind
    → IsKindOf (codes "join" ∷ words) kind
join_of-some (left ∷ left_lo ∷ left_hi ∷ right ∷ right_lo ∷ right_hi ∷ on ∷ words) kind said =
    if-word on (codes "on") _ _ kind said (λ same said.
    option_map-some _ (pairs_of words) kind said (λ pairs there made.
    let says = some_of-some pair_of pair_word IsWholePair words pairs pair_of-some there in
    subst (IsKindOf (codes "join" ∷ left ∷ left_lo ∷ left_hi ∷ right ∷ right_lo ∷ right_hi ∷ on
    ∷ words)) made (record {
      same = λ name width. rw (same, says.same) refl;
      whole = says.are;
    })))
    (λ said. absurd cc)
join_of-some _ kind said = absurd cc

-- what fills a view
pub view_kind_of-some : (keyword : List ℕ) (words : List (List ℕ)) (kind : WrittenKindOf)
    → view_kind_of keyword words ≡ Some kind → IsKindOf (keyword ∷ words) kind
view_kind_of-some keyword words kind said =
    if-word keyword (codes "filter") _ _ kind said
    (λ same said. written (codes "filter") same (filter_of-some words kind said)) (λ said.
    if-word keyword (codes "group") _ _ kind said
    (λ same said. written (codes "group") same (group_of-some words kind said)) (λ said.
    if-word keyword (codes "join") _ _ kind said
    (λ same said. written (codes "join") same (join_of-some words kind said)) (λ said. absurd cc)))
  where
    written : (one : List ℕ) → keyword ≡ one → IsKindOf (one ∷ words) kind
        → IsKindOf (keyword ∷ words) kind
    written one same is = subst (λ one. IsKindOf (one ∷ words) kind) (sym same) is
