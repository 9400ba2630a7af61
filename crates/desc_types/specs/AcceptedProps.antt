-- What is said of an accepted description has one proof at most, so it may be a ghost field.
use Rattle.std.specs.Prelude.{ℕ, List}
use Rattle.std.proofs.Props.{props}
use Rattle.depot_cell.specs.declared.cell.Cell.{Cell}
use Rattle.depot_cell.specs.declared.cell.Cell.TheVariants.{Int, Text}
use Rattle.depot_cell.specs.Cells.{IsCell}
use Rattle.desc_lines.specs.declared.fun.Fun.{Fun}
use Rattle.desc_lines.specs.declared.fun.Fun.TheVariants as fun
use Rattle.desc_types.specs.declared.table.Column.{Column}
use Rattle.desc_types.specs.Accepted.{Computes, IsKind, IsSaid}
use Rattle.desc_types.specs.Descriptions.{DescOf}
use Rattle.desc_types.specs.KindValues.{KindOf, Raw, Filter, Group, Join}

-- a cell
IsCell-prop : (cell : Cell) → IsProp (IsCell cell)
IsCell-prop (Int number) = Prim.hlevel props
IsCell-prop (Text bytes) = Prim.hlevel props

-- a value that a line says
IsSaid-prop : (cell : Cell) → IsProp (IsSaid cell)
IsSaid-prop (Int number) = Prim.hlevel props
IsSaid-prop (Text bytes) = Prim.hlevel props

-- what an aggregate computes
Computes-prop : (fun_ : Fun) (columns : List Column) (column : ℕ)
    → IsProp (Computes fun_ columns column)
Computes-prop fun.Sum columns column = Prim.hlevel props
Computes-prop fun.Count columns column = Prim.hlevel props
Computes-prop fun.Least columns column = Prim.hlevel props
Computes-prop fun.Greatest columns column = Prim.hlevel props

ruleset part_props = (IsCell-prop, IsSaid-prop, Computes-prop, props)

-- what fills a table
pub IsKind-prop : (desc : DescOf) (columns : List Column) (kind : KindOf)
    → IsProp (IsKind desc columns kind)
IsKind-prop desc columns (Raw feed time) = Prim.hlevel part_props
IsKind-prop desc columns (Filter source conds keep) = Prim.hlevel part_props
IsKind-prop desc columns (Group source keys aggs) = Prim.hlevel part_props
IsKind-prop desc columns (Join left right on) = Prim.hlevel part_props

pub ruleset accepted_props = (IsKind-prop, props)
