-- The columns that views have.
use Rattle.std.specs.Prelude.{ℕ, List, [], ◌∷◌, ◌++◌, Option, Some, Bool, true, not, ◌&&◌, map, codes}
use Rattle.std.specs.Prelude.{filter_map, option_map, slice_get}
use Rattle.std.specs.List.{list_any}
use Rattle.std.specs.Str.{bytes_eq}
use Rattle.depot_cell.specs.declared.cell.Ty.{Ty}
use Rattle.depot_cell.specs.declared.cell.Ty.TheVariants as ty
use Rattle.desc_lines.specs.declared.fun.Fun.{Fun}
use Rattle.desc_lines.specs.declared.fun.Fun.TheVariants as fun
use Rattle.desc_types.specs.declared.table.Column.{Column}
use Rattle.desc_types.specs.declared.view.Agg.{Agg}

-- whether no two words are alike
abbrev pub are_different : List (List ℕ) → Bool
are_different [] = true
are_different (word ∷ others) =
    not (list_any (bytes_eq word) others) && are_different others

-- the columns with these numbers
abbrev pub kept_columns : List Column → (keep : List ℕ) → List Column
kept_columns columns keep = filter_map (slice_get columns) keep

-- the type of what is computed of a column of this type: a sum and a count are ints
abbrev pub computed_type : Fun → Option Ty → Ty
computed_type fun.Least (Some ty) = ty
computed_type fun.Greatest (Some ty) = ty
computed_type _ _ = ty.Int

-- the type of an aggregate over a source with these columns
abbrev pub agg_type : List Column → Agg → Ty
agg_type columns agg = computed_type agg.fun
    (option_map (λ (column : Column). column.ty) (slice_get columns agg.column))

-- a column of a join: under a prefix
abbrev pub prefixed : (prefix : List ℕ) → Column → Column
prefixed prefix column = record column { name = prefix ++ column.name }

-- the columns of a join: the left ones under `l_`, then the right ones under `r_`
abbrev pub joined_columns : (left right : List Column) → List Column
joined_columns left right =
    map (prefixed (codes "l_")) left ++ map (prefixed (codes "r_")) right
