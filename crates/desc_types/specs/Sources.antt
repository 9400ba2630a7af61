-- What a description says of the sources of its views.
use Rattle.std.specs.Prelude.{ℕ, ◌<◌, ◌≡◌, List, [], ◌∷◌, Option, Some, None, slice_get, All}
use Rattle.partition_map.specs.Partitions.{SpanFits}
use Rattle.desc_types.specs.declared.view.Src.{Src}
use Rattle.desc_types.specs.Descriptions.{DescOf}
use Rattle.desc_types.specs.Tables.{TableOf}
use Rattle.desc_types.specs.KindValues.{KindOf, Raw, Filter, Group, Join}

-- the width of a table, and 0 if there is none
abbrev pub width_of : Option TableOf → ℕ
width_of None = 0
width_of (Some table) = table.width

-- the width of the table with this number
abbrev pub table_width : DescOf → ℕ → ℕ
table_width desc table = width_of (slice_get desc.tables table)

-- the sources that a table names, in order
abbrev pub kind_sources : KindOf → List Src
kind_sources (Raw _ _) = []
kind_sources (Filter src _ _) = src ∷ []
kind_sources (Group src _ _) = src ∷ []
kind_sources (Join left right _) = left ∷ right ∷ []

-- each source of a view is an earlier table
abbrev pub HasEarlierSources : DescOf → Type 0
HasEarlierSources desc = (number : ℕ) (table : TableOf) → slice_get desc.tables number ≡ Some table
    → All (λ (src : Src). src.table < number) (kind_sources table.kind)

-- each source of each view is read over a span that fits: whole partitions of it, at most 1,024
abbrev pub HasFittingSources : DescOf → Type 0
HasFittingSources desc = (number : ℕ) (table : TableOf) → slice_get desc.tables number ≡ Some table
    → All (λ (src : Src). SpanFits table.width (table_width desc src.table) src.span)
    (kind_sources table.kind)
