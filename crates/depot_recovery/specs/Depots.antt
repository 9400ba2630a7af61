-- A depot as its catalogue tells it, and what the files of its entries have to hold.
use Rattle.std.specs.Prelude.{ℕ, Bool, not, List, [], ◌∷◌, ◌++◌}
use Rattle.std.specs.Prelude.{drop}
use Rattle.std.specs.List.{list_any}
use Rattle.depot_cell.specs.declared.cell.Ty.{Ty}
use Rattle.desc_types.specs.declared.table.Key.{Key}
use Rattle.desc_types.specs.Accepted.{column_types}
use Rattle.desc_types.specs.Descriptions.{DescOf}
use Rattle.desc_types.specs.Lookups.{table_columns}
use Rattle.table_desc.specs.Canonical.{canonical}
use Rattle.row_codec.specs.declared.body.Body.{Body}
use Rattle.row_codec.specs.declared.body.Body.TheVariants as body
use Rattle.row_codec.specs.Bodies.{body_bytes}
use Rattle.view_meaning.specs.declared.journal.Entry.{Entry}
use Rattle.view_meaning.specs.declared.journal.Entry.TheVariants as entry
use Rattle.view_meaning.specs.Versions.{installs}

-- a description, a journal, and the length of each entry's content, in bytes
pub record DepotOf : Type 0 where
  pub desc : DescOf
  pub entries : List Entry
  pub lengths : List ℕ

-- a depot without entries
abbrev pub empty_depot : DescOf → DepotOf
empty_depot desc = record { desc = desc; entries = []; lengths = [] }

-- a depot with one entry more, whose content has this length
abbrev pub with_more : DepotOf → Entry → (len : ℕ) → DepotOf
with_more depot next len = record depot {
  entries = depot.entries ++ next ∷ [];
  lengths = depot.lengths ++ len ∷ [];
}

-- `depot 1` and a line feed
abbrev pub HEAD : List ℕ
HEAD = 100 ∷ 101 ∷ 112 ∷ 111 ∷ 116 ∷ 32 ∷ 49 ∷ 10 ∷ []

-- the body of record 0
abbrev pub first_body : DescOf → List ℕ
first_body desc = HEAD ++ canonical desc

-- what the catalogue says of an entry
abbrev pub body_of : Entry → (len : ℕ) → Body
body_of (entry.Load delivery) len = body.Load len
body_of (entry.Install key at) len = body.Install key at len

-- the bodies of entries with contents of these lengths
abbrev pub entry_bodies : List Entry → (lengths : List ℕ) → List (List ℕ)
entry_bodies (next ∷ later) (len ∷ lengths) =
    body_bytes (body_of next len) ∷ entry_bodies later lengths
entry_bodies _ _ = []

-- the bodies of a depot's catalogue
abbrev pub bodies_of : DepotOf → List (List ℕ)
bodies_of depot = first_body depot.desc ∷ entry_bodies depot.entries depot.lengths

-- the types of the columns of a table, and of those of a partition's table
abbrev pub types_of : DescOf → (table : ℕ) → List Ty
types_of desc table = column_types (table_columns desc table)

-- whether the install of a partition is its latest: none follows the first so many entries
abbrev pub is_latest : List Entry → (number : ℕ) → Key → Bool
is_latest journal number key = not (list_any (installs key) (drop number journal))
