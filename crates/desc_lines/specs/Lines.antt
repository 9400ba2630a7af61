-- What the words of a line say, if they have one of the five shapes.
use Rattle.std.specs.Prelude.{ℕ, List, [], ◌∷◌, Option, Some, None, Bool, true, false, ◌&&◌}
use Rattle.std.specs.Prelude.{if◌then◌else◌, codes, option_and_then, option_map}
use Rattle.std.specs.Str.{bytes_eq}
use Rattle.depot_cell.specs.declared.cell.Op.{Op}
use Rattle.depot_cell.specs.declared.cell.Op.TheVariants as op
use Rattle.desc_lines.specs.declared.fun.Fun.{Fun}
use Rattle.desc_lines.specs.declared.fun.Fun.TheVariants as fun
use Rattle.desc_lines.specs.Cuts.{cut_at, cut_word, each_of, if_some, with_first}
use Rattle.desc_lines.specs.Written.{WrittenAggOf, WrittenColumnOf, WrittenCondOf, WrittenKindOf}
use Rattle.desc_lines.specs.Written.{WrittenLineOf, WrittenPairOf, WrittenSourceOf}
use Rattle.desc_lines.specs.Written.{Raw, Filter, Group, Join, FeedLine, TableLine}

-- the signs at which words are cut
abbrev pub colon : ℕ
colon = 58

abbrev pub equals : ℕ
equals = 61

-- `feed F` or `feed F header`
abbrev pub feed_of : (after_feed : List (List ℕ)) → Option WrittenLineOf
feed_of (name ∷ []) = Some (FeedLine name false)
feed_of (name ∷ header ∷ []) =
    if bytes_eq header (codes "header") then Some (FeedLine name true) else None
feed_of _ = None

-- the line of a table that is filled so
abbrev pub table_of : (name width : List ℕ) → Option WrittenKindOf → Option WrittenLineOf
table_of name width kind =
    option_map (λ kind. TableLine (record { name = name; width = width; kind = kind })) kind

-- `C:TYPE`
abbrev pub column_of : List ℕ → Option WrittenColumnOf
column_of word =
    option_map (λ parts. record { name = parts.0; ty = parts.1 }) (cut_word colon word)

-- `C:TYPE ..`
abbrev pub columns_of : List (List ℕ) → Option (List WrittenColumnOf)
columns_of words = if_some words (each_of column_of words)

-- whether these are the keywords of a raw table, in their order
abbrev pub are_raw_keywords : (feed width time cols : List ℕ) → Bool
are_raw_keywords feed width time cols = bytes_eq feed (codes "feed")
    && bytes_eq width (codes "width") && bytes_eq time (codes "time")
    && bytes_eq cols (codes "cols")

-- `raw T feed F width W time C cols C:TYPE ..`
abbrev pub raw_of : (after_raw : List (List ℕ)) → Option WrittenLineOf
raw_of (name ∷ feed ∷ of_feed ∷ width ∷ ticks ∷ time ∷ of_time ∷ cols ∷ words) =
    if are_raw_keywords feed width time cols
    then table_of name ticks (option_map (Raw of_feed of_time) (columns_of words)) else None
raw_of _ = None

-- `S LO HI`
abbrev pub source_of : (table lo hi : List ℕ) → WrittenSourceOf
source_of table lo hi = record { table = table; lo = lo; hi = hi }

-- the operator that a word is
abbrev pub op_of : List ℕ → Option Op
op_of word =
    if bytes_eq word (codes "=") then Some op.Eq
    else if bytes_eq word (codes "!=") then Some op.Ne
    else if bytes_eq word (codes "<") then Some op.Lt
    else if bytes_eq word (codes "<=") then Some op.Le
    else if bytes_eq word (codes ">") then Some op.Gt
    else if bytes_eq word (codes ">=") then Some op.Ge else None

-- `C OP LIT`
abbrev pub cond_of : (column op literal : List ℕ) → Option WrittenCondOf
cond_of column op literal =
    option_map (λ op. record { column = column; op = op; literal = literal }) (op_of op)

-- what a filter takes of its source: the rows that meet the conditions, and the kept columns
pub record SelectionOf : Type 0 where
  pub conds : List WrittenCondOf
  pub keep : List (List ℕ)

-- the last condition, and the columns after `keep`
abbrev pub last_cond : Option WrittenCondOf → (keep : List (List ℕ)) → Option SelectionOf
last_cond cond keep =
    if_some keep (option_map (λ cond. record { conds = cond ∷ []; keep = keep }) cond)

-- one more condition in front
abbrev pub more_cond : Option WrittenCondOf → Option SelectionOf → Option SelectionOf
more_cond None selection = None
more_cond (Some cond) None = None
more_cond (Some cond) (Some selection) = Some (record selection { conds = cond ∷ selection.conds })

-- `C OP LIT [and C OP LIT ..] keep C ..`
abbrev pub selection_of : List (List ℕ) → Option SelectionOf
selection_of (column ∷ op ∷ literal ∷ next ∷ words) =
    if bytes_eq next (codes "keep") then last_cond (cond_of column op literal) words
    else if bytes_eq next (codes "and")
    then more_cond (cond_of column op literal) (selection_of words) else None
selection_of _ = None

-- `view V width W filter S LO HI where C OP LIT [and C OP LIT ..] keep C ..`
abbrev pub filter_of : (after_filter : List (List ℕ)) → Option WrittenKindOf
filter_of (table ∷ lo ∷ hi ∷ given ∷ words) =
    if bytes_eq given (codes "where")
    then option_map (λ selection. Filter (source_of table lo hi) selection.conds selection.keep)
    (selection_of words)
    else None
filter_of _ = None

-- what an aggregate of a column computes
abbrev pub fun_of : List ℕ → Option Fun
fun_of word =
    if bytes_eq word (codes "sum") then Some fun.Sum
    else if bytes_eq word (codes "least") then Some fun.Least
    else if bytes_eq word (codes "greatest") then Some fun.Greatest else None

-- an aggregate of a column: its function, the column and its name
abbrev pub agg_over : Option Fun → (column name : List ℕ) → Option WrittenAggOf
agg_over fun column name =
    option_map (λ fun. record { fun = fun; column = Some column; name = name }) fun

-- AGG is `count`, `sum:C`, `least:C` or `greatest:C`
abbrev pub agg_named : (agg name : List ℕ) → Option WrittenAggOf
agg_named agg name =
    if bytes_eq agg (codes "count")
    then Some (record { fun = fun.Count; column = None; name = name })
    else option_and_then (λ parts. agg_over (fun_of parts.0) parts.1 name) (cut_word colon agg)

-- `AGG as NAME`
abbrev pub agg_of : (agg before_name name : List ℕ) → Option WrittenAggOf
agg_of agg before_name name =
    if bytes_eq before_name (codes "as") then agg_named agg name else None

-- `AGG as NAME ..`
abbrev pub each_agg_of : List (List ℕ) → Option (List WrittenAggOf)
each_agg_of [] = Some []
each_agg_of (agg ∷ before_name ∷ name ∷ words) =
    with_first (agg_of agg before_name name) (each_agg_of words)
each_agg_of _ = None

-- the aggregates of a group: at least one
abbrev pub aggs_of : List (List ℕ) → Option (List WrittenAggOf)
aggs_of words = if_some words (each_agg_of words)

-- whether a word is the one that ends the keys
abbrev pub is_agg : List ℕ → Bool
is_agg word = bytes_eq word (codes "agg")

-- a group by these keys: at least one
abbrev pub grouped : WrittenSourceOf → (keys : List (List ℕ)) → Option (List WrittenAggOf)
    → Option WrittenKindOf
grouped source keys aggs = if_some keys (option_map (Group source keys) aggs)

-- `view V width W group S LO HI by C .. agg AGG as NAME [AGG as NAME ..]`: the keys end at the
-- first word `agg`
abbrev pub group_of : (after_group : List (List ℕ)) → Option WrittenKindOf
group_of (table ∷ lo ∷ hi ∷ by ∷ words) =
    if bytes_eq by (codes "by")
    then option_and_then (λ parts. grouped (source_of table lo hi) parts.0 (aggs_of parts.1))
    (cut_at is_agg words)
    else None
group_of _ = None

-- `C=C`
abbrev pub pair_of : List ℕ → Option WrittenPairOf
pair_of word =
    option_map (λ parts. record { left = parts.0; right = parts.1 }) (cut_word equals word)

-- `C=C ..`
abbrev pub pairs_of : List (List ℕ) → Option (List WrittenPairOf)
pairs_of words = if_some words (each_of pair_of words)

-- `view V width W join S LO HI S LO HI on C=C [C=C ..]`
abbrev pub join_of : (after_join : List (List ℕ)) → Option WrittenKindOf
join_of (left ∷ left_lo ∷ left_hi ∷ right ∷ right_lo ∷ right_hi ∷ on ∷ words) =
    if bytes_eq on (codes "on")
    then option_map (Join (source_of left left_lo left_hi) (source_of right right_lo right_hi))
    (pairs_of words)
    else None
join_of _ = None

-- what fills a view, by the keyword of its kind
abbrev pub view_kind_of : (keyword : List ℕ) → List (List ℕ) → Option WrittenKindOf
view_kind_of keyword words =
    if bytes_eq keyword (codes "filter") then filter_of words
    else if bytes_eq keyword (codes "group") then group_of words
    else if bytes_eq keyword (codes "join") then join_of words else None

-- `view V width W ..`
abbrev pub view_of : (after_view : List (List ℕ)) → Option WrittenLineOf
view_of (name ∷ width ∷ ticks ∷ keyword ∷ words) =
    if bytes_eq width (codes "width") then table_of name ticks (view_kind_of keyword words)
    else None
view_of _ = None

-- what the words after the keyword of a line say
abbrev pub shape_of : (keyword : List ℕ) → List (List ℕ) → Option WrittenLineOf
shape_of keyword words =
    if bytes_eq keyword (codes "feed") then feed_of words
    else if bytes_eq keyword (codes "raw") then raw_of words
    else if bytes_eq keyword (codes "view") then view_of words else None

-- what the words of a line say
abbrev pub line_of : List (List ℕ) → Option WrittenLineOf
line_of [] = None
line_of (keyword ∷ words) = shape_of keyword words
