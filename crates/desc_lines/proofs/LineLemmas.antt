-- Lines: the words of one that is whole say it (`line_of-words`), and words that say a line are its
-- words, and it is whole (`line_of-some`).
use Rattle.std.proofs.Common.{◌≡◌, ◌∙◌, ℕ, List, [], ◌∷◌, Some, Bool, true, false, ◌&&◌}
use Rattle.std.proofs.Common.{bytes_eq, codes, flat_map, option_map, refl, sym, ap, subst, arith}
use Rattle.std.specs.Cmp.Lexicographic.{same_text}
use Rattle.std.proofs.lemmas.Option.{same_Some}
use Rattle.desc_lines.specs.Written.{WrittenKindOf, WrittenLineOf}
use Rattle.desc_lines.specs.Written.{Raw, Filter, Group, Join, FeedLine, TableLine}
use Rattle.desc_lines.specs.Lines.{are_raw_keywords, column_of, columns_of, feed_of, is_agg}
use Rattle.desc_lines.specs.Lines.{line_of}
use Rattle.desc_lines.specs.Lines.{pair_of, raw_of, view_kind_of, view_of}
use Rattle.desc_lines.specs.LineTexts.{agg_words, column_word, line_words, pair_word, table_words}
use Rattle.desc_lines.specs.Whole.{IsWhole, IsWholeColumn, IsWholeKind, IsWholePair}
use Rattle.desc_lines.specs.Laws.{IsWritten}
use Rattle.desc_lines.proofs.ListLemmas.{if-passed, if-some, if-word, option_map-some}
use Rattle.desc_lines.proofs.CutLemmas.{cut_at-joined}
use Rattle.desc_lines.proofs.FrontLemmas.{if_some-some, some_of-map, some_of-some}
use Rattle.desc_lines.proofs.PartLemmas.{column_of-some, column_of-word, pair_of-word}
use Rattle.desc_lines.proofs.SelectionLemmas.{selection_of-words}
use Rattle.desc_lines.proofs.AggLemmas.{aggs_of-words}
use Rattle.desc_lines.proofs.KindLemmas.{view_kind_of-some}

-- the words of a table say it
line_of-table_words : (name width : List ℕ) (kind : WrittenKindOf) → IsWholeKind kind
    → line_of (table_words name width kind)
    ≡ Some (TableLine (record { name = name; width = width; kind = kind }))
line_of-table_words name width (Raw feed time columns) whole =
    rw (some_of-map column_of column_word IsWholeColumn columns column_of-word whole) refl
line_of-table_words name width (Filter source [] keep) whole = absurd (omega (arith, whole.0))
line_of-table_words name width (Filter source (first ∷ others) keep) whole =
    rw (selection_of-words first others keep whole.1) refl
line_of-table_words name width (Group source keys aggs) whole = rw (
  cut_at-joined is_agg keys (codes "agg") (flat_map agg_words aggs) whole.0.each refl,
  if_some-some {Y = WrittenKindOf} keys _ whole.0.some,
  aggs_of-words aggs whole.1,
) refl
line_of-table_words name width (Join left right on) whole =
    rw (some_of-map pair_of pair_word IsWholePair on pair_of-word whole) refl

-- the words of a line that is whole say it
pub line_of-words : (line : WrittenLineOf) → IsWhole line → line_of (line_words line) ≡ Some line
line_of-words (FeedLine name true) whole = refl
line_of-words (FeedLine name false) whole = refl
line_of-words (TableLine table) whole =
    line_of-table_words table.name table.width table.kind whole

-- a feed
feed_of-some : (words : List (List ℕ)) (line : WrittenLineOf) → feed_of words ≡ Some line
    → IsWritten line (codes "feed" ∷ words)
feed_of-some (name ∷ []) line said = subst (λ line. IsWritten line (codes "feed" ∷ name ∷ []))
    (same_Some _ _ said) (record { same = refl; whole = tt })
feed_of-some (name ∷ header ∷ []) line said =
    if-word header (codes "header") _ _ line said
    (λ same made. subst (λ line. IsWritten line (codes "feed" ∷ name ∷ header ∷ []))
    (same_Some _ _ made) (record {
      same = ap (λ header. codes "feed" ∷ name ∷ header ∷ []) (sym same);
      whole = tt;
    }))
    (λ said. absurd cc)
feed_of-some _ line said = absurd cc

-- the keywords of a raw table
pub record AreRawKeywords (feed width time cols : List ℕ) : Type 0 where
  pub feed_is : feed ≡ codes "feed"
  pub width_is : width ≡ codes "width"
  pub time_is : time ≡ codes "time"
  pub cols_is : cols ≡ codes "cols"

are_raw_keywords-true : (feed width time cols : List ℕ)
    → are_raw_keywords feed width time cols ≡ true → AreRawKeywords feed width time cols
are_raw_keywords-true feed width time cols are =
    let each = all_four (bytes_eq feed (codes "feed")) (bytes_eq width (codes "width"))
    (bytes_eq time (codes "time")) (bytes_eq cols (codes "cols")) are in
    record {
      feed_is = same_text feed (codes "feed") (sym each.0);
      width_is = same_text width (codes "width") (sym each.1);
      time_is = same_text time (codes "time") (sym each.2);
      cols_is = same_text cols (codes "cols") (sym each.3);
    }
  where
    all_four : (a b c d : Bool) → (a && b && c && d) ≡ true
        → (a ≡ true) × (b ≡ true) × (c ≡ true) × (d ≡ true)
    all_four true true true true all = (refl, refl, refl, refl)
    all_four _ _ _ _ all = absurd cc

-- a raw table
raw_of-some : (words : List (List ℕ)) (line : WrittenLineOf) → raw_of words ≡ Some line
    → IsWritten line (codes "raw" ∷ words)
raw_of-some (name ∷ feed ∷ of_feed ∷ width ∷ ticks ∷ time ∷ of_time ∷ cols ∷ words) line said =
    let are = are_raw_keywords-true feed width time cols (if-passed _ _ line said) in
    option_map-some _ (option_map (Raw of_feed of_time) (columns_of words)) line
    (if-some (are_raw_keywords feed width time cols) _ line said) (λ kind there made.
    option_map-some (Raw of_feed of_time) (columns_of words) kind there (λ columns there is_kind.
    let says = some_of-some column_of column_word IsWholeColumn words columns column_of-some there
    in
    subst (λ line. IsWritten line (codes "raw" ∷ name ∷ feed ∷ of_feed ∷ width ∷ ticks ∷ time
    ∷ of_time ∷ cols ∷ words))
    (ap (λ kind. TableLine (record { name = name; width = ticks; kind = kind })) is_kind ∙ made)
    (record {
      same = rw (are.feed_is, are.width_is, are.time_is, are.cols_is, says.same) refl;
      whole = says.are;
    })))
raw_of-some _ line said = absurd cc

-- a view
view_of-some : (words : List (List ℕ)) (line : WrittenLineOf) → view_of words ≡ Some line
    → IsWritten line (codes "view" ∷ words)
view_of-some (name ∷ width ∷ ticks ∷ keyword ∷ words) line said =
    if-word width (codes "width") _ _ line said (λ same said.
    option_map-some _ (view_kind_of keyword words) line said (λ kind there made.
    let says = view_kind_of-some keyword words kind there in
    subst (λ line. IsWritten line (codes "view" ∷ name ∷ width ∷ ticks ∷ keyword ∷ words)) made
    (record { same = rw same (says.same name ticks); whole = says.whole })))
    (λ said. absurd cc)
view_of-some _ line said = absurd cc

-- words that say a line are the words of that line, and it is whole
pub line_of-some : (words : List (List ℕ)) (line : WrittenLineOf) → line_of words ≡ Some line
    → IsWritten line words
line_of-some [] line said = absurd cc
line_of-some (keyword ∷ words) line said =
    if-word keyword (codes "feed") _ _ line said
    (λ same said. written (codes "feed") same (feed_of-some words line said)) (λ said.
    if-word keyword (codes "raw") _ _ line said
    (λ same said. written (codes "raw") same (raw_of-some words line said)) (λ said.
    if-word keyword (codes "view") _ _ line said
    (λ same said. written (codes "view") same (view_of-some words line said)) (λ said. absurd cc)))
  where
    written : (one : List ℕ) → keyword ≡ one → IsWritten line (one ∷ words)
        → IsWritten line (keyword ∷ words)
    written one same is = subst (λ one. IsWritten line (one ∷ words)) (sym same) is
