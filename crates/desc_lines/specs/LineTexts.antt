-- The words and the text of a line.
use Rattle.std.specs.Prelude.{ℕ, List, [], ◌∷◌, ◌++◌, Option, Some, None, true, false, codes, map}
use Rattle.std.specs.Prelude.{flat_map}
use Rattle.depot_cell.specs.declared.cell.Op.{Op}
use Rattle.depot_cell.specs.declared.cell.Op.TheVariants as op
use Rattle.desc_lines.specs.declared.fun.Fun.{Fun}
use Rattle.desc_lines.specs.declared.fun.Fun.TheVariants as fun
use Rattle.desc_lines.specs.Words.{spaced}
use Rattle.desc_lines.specs.Cuts.{joined}
use Rattle.desc_lines.specs.Lines.{colon, equals}
use Rattle.desc_lines.specs.Written.{WrittenAggOf, WrittenColumnOf, WrittenCondOf, WrittenKindOf}
use Rattle.desc_lines.specs.Written.{WrittenLineOf, WrittenPairOf, WrittenSourceOf}
use Rattle.desc_lines.specs.Written.{Raw, Filter, Group, Join, FeedLine, TableLine}

-- the word of an operator
abbrev pub op_word : Op → List ℕ
op_word op.Eq = codes "="
op_word op.Ne = codes "!="
op_word op.Lt = codes "<"
op_word op.Le = codes "<="
op_word op.Gt = codes ">"
op_word op.Ge = codes ">="

-- the word of a function
abbrev pub fun_word : Fun → List ℕ
fun_word fun.Sum = codes "sum"
fun_word fun.Count = codes "count"
fun_word fun.Least = codes "least"
fun_word fun.Greatest = codes "greatest"

-- `C:TYPE`
abbrev pub column_word : WrittenColumnOf → List ℕ
column_word column = joined column.name colon column.ty

-- `S LO HI`
abbrev pub source_words : WrittenSourceOf → List (List ℕ)
source_words source = source.table ∷ source.lo ∷ source.hi ∷ []

-- `C OP LIT`
abbrev pub cond_words : WrittenCondOf → List (List ℕ)
cond_words cond = cond.column ∷ op_word cond.op ∷ cond.literal ∷ []

-- `C OP LIT [and C OP LIT ..]`
abbrev pub conds_words : List WrittenCondOf → List (List ℕ)
conds_words [] = []
conds_words (cond ∷ []) = cond_words cond
conds_words (cond ∷ next ∷ others) = cond_words cond ++ codes "and" ∷ conds_words (next ∷ others)

-- what an aggregate computes, and of which column
abbrev pub agg_word : Fun → (column : Option (List ℕ)) → List ℕ
agg_word fun None = fun_word fun
agg_word fun (Some column) = joined (fun_word fun) colon column

-- `AGG as NAME`
abbrev pub agg_words : WrittenAggOf → List (List ℕ)
agg_words agg = agg_word agg.fun agg.column ∷ codes "as" ∷ agg.name ∷ []

-- `C=C`
abbrev pub pair_word : WrittenPairOf → List ℕ
pair_word pair = joined pair.left equals pair.right

-- `V width W KIND S LO HI`
abbrev pub view_front : (name width kind : List ℕ) → WrittenSourceOf → List (List ℕ)
view_front name width kind source =
    name ∷ codes "width" ∷ width ∷ kind ∷ source_words source

-- the words of a table
abbrev pub table_words : (name width : List ℕ) → WrittenKindOf → List (List ℕ)
table_words name width (Raw feed time columns) =
    codes "raw" ∷ name ∷ codes "feed" ∷ feed ∷ codes "width" ∷ width ∷ codes "time" ∷ time
    ∷ codes "cols" ∷ map column_word columns
table_words name width (Filter source conds keep) =
    codes "view" ∷ view_front name width (codes "filter") source
    ++ codes "where" ∷ conds_words conds ++ codes "keep" ∷ keep
table_words name width (Group source keys aggs) =
    codes "view" ∷ view_front name width (codes "group") source
    ++ codes "by" ∷ keys ++ codes "agg" ∷ flat_map agg_words aggs
table_words name width (Join left right on) =
    codes "view" ∷ view_front name width (codes "join") left
    ++ source_words right ++ codes "on" ∷ map pair_word on

-- the words of a line
abbrev pub line_words : WrittenLineOf → List (List ℕ)
line_words (FeedLine name false) = codes "feed" ∷ name ∷ []
line_words (FeedLine name true) = codes "feed" ∷ name ∷ codes "header" ∷ []
line_words (TableLine table) = table_words table.name table.width table.kind

-- what stands after the first word of a line with these further words: a space before each
abbrev pub spaced_after : List (List ℕ) → List ℕ
spaced_after words = flat_map (λ word. 32 ∷ word) words

-- the text of a line: its words with single spaces, and LF
abbrev pub line_text : WrittenLineOf → List ℕ
line_text line = spaced (line_words line) ++ 10 ∷ []
