-- What a line of a description says, in its words: nothing is looked up, and no number is read.
use Rattle.std.specs.Prelude.{ℕ, List, Option, Bool}
use Rattle.depot_cell.specs.declared.cell.Op.{Op}
use Rattle.desc_lines.specs.declared.fun.Fun.{Fun}

-- a column of a raw table: its name and its type
pub record WrittenColumnOf : Type 0 where
  pub name : List ℕ
  pub ty : List ℕ

-- a source of a view: its name, and the two offsets of the span that is read of it
pub record WrittenSourceOf : Type 0 where
  pub table : List ℕ
  pub lo : List ℕ
  pub hi : List ℕ

-- a condition of a filter
pub record WrittenCondOf : Type 0 where
  pub column : List ℕ
  pub op : Op
  pub literal : List ℕ

-- an aggregate of a group: what it computes, of which column if of one, and its name
pub record WrittenAggOf : Type 0 where
  pub fun : Fun
  pub column : Option (List ℕ)
  pub name : List ℕ

-- a pair of a join: a column of the left source and one of the right
pub record WrittenPairOf : Type 0 where
  pub left : List ℕ
  pub right : List ℕ

-- what fills a table: a feed, with the time column and the columns; a source, with conditions and
-- the kept columns; a source, with keys and aggregates; two sources, with the pairs that agree
pub data WrittenKindOf : Type 0 where
  Raw : (feed time : List ℕ) → (columns : List WrittenColumnOf) → WrittenKindOf
  Filter : (source : WrittenSourceOf) → (conds : List WrittenCondOf) → (keep : List (List ℕ))
      → WrittenKindOf
  Group : (source : WrittenSourceOf) → (keys : List (List ℕ)) → (aggs : List WrittenAggOf)
      → WrittenKindOf
  Join : (left right : WrittenSourceOf) → (on : List WrittenPairOf) → WrittenKindOf

-- a table: its name, its width, and what fills it
pub record WrittenTableOf : Type 0 where
  pub name : List ℕ
  pub width : List ℕ
  pub kind : WrittenKindOf

-- a line: it declares a feed, or a table
pub data WrittenLineOf : Type 0 where
  FeedLine : (name : List ℕ) → (header : Bool) → WrittenLineOf
  TableLine : (table : WrittenTableOf) → WrittenLineOf
