-- Which lines can be written so that their words say the same again.
use Rattle.std.specs.Prelude.{ℕ, ◌≡◌, ◌<◌, ⊤, List, Bool, true, false, is_none, length}
use Rattle.std.specs.List.{AllByRecursion}
use Rattle.desc_lines.specs.declared.fun.Fun.{Fun}
use Rattle.desc_lines.specs.declared.fun.Fun.TheVariants as fun
use Rattle.desc_lines.specs.Words.{Lacks}
use Rattle.desc_lines.specs.Lines.{colon, equals, is_agg}
use Rattle.desc_lines.specs.Written.{WrittenAggOf, WrittenColumnOf, WrittenKindOf, WrittenLineOf}
use Rattle.desc_lines.specs.Written.{WrittenPairOf}
use Rattle.desc_lines.specs.Written.{Raw, Filter, Group, Join, FeedLine, TableLine}

-- a list with a member, each of which is so
pub record AreSome {X : Type 0} (P : X → Type 0) (items : List X) : Type 0 where
  pub some : 0 < length items
  pub each : AllByRecursion P items

-- a name that is not cut by the colon after it
abbrev pub IsWholeColumn : WrittenColumnOf → Type 0
IsWholeColumn column = Lacks colon column.name

-- a word that does not end the keys
abbrev pub IsWholeKey : List ℕ → Type 0
IsWholeKey key = is_agg key ≡ false

-- whether a function is of no column
abbrev pub is_count : Fun → Bool
is_count fun.Count = true
is_count _ = false

-- a count is of no column, and each other aggregate of one
abbrev pub IsWholeAgg : WrittenAggOf → Type 0
IsWholeAgg agg = is_none agg.column ≡ is_count agg.fun

-- a name that is not cut by the sign after it
abbrev pub IsWholePair : WrittenPairOf → Type 0
IsWholePair pair = Lacks equals pair.left

-- what fills a table: no list is empty, and its parts are whole
abbrev pub IsWholeKind : WrittenKindOf → Type 0
IsWholeKind (Raw feed time columns) = AreSome IsWholeColumn columns
IsWholeKind (Filter source conds keep) = (0 < length conds) × (0 < length keep)
IsWholeKind (Group source keys aggs) = AreSome IsWholeKey keys × AreSome IsWholeAgg aggs
IsWholeKind (Join left right on) = AreSome IsWholePair on

-- a line: that of a feed always is
abbrev pub IsWhole : WrittenLineOf → Type 0
IsWhole (FeedLine name header) = ⊤
IsWhole (TableLine table) = IsWholeKind table.kind
