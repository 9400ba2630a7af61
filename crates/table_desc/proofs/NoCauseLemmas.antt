-- No cause speaks against the line of a table of an accepted description: `table-fine`.
use Rattle.std.proofs.Common.{◌≡◌, ◌∙◌, ℕ, Some, None, true, false, not, length, map}
use Rattle.std.proofs.Common.{refl, ap}
use Rattle.std.specs.Prelude.{is_some, option_map, slice_get}
use Rattle.std.proofs.lemmas.Bool.{le-ltb, lt-leb}
use Rattle.std.proofs.lemmas.Option.{slice_get-map}
use Rattle.desc_lines.specs.Names.{is_name}
use Rattle.desc_lines.specs.Written.{TableLine, WrittenKindOf, WrittenTableOf}
use Rattle.desc_types.specs.Descriptions.{DescOf}
use Rattle.desc_types.specs.Tables.{TableOf}
use Rattle.desc_types.specs.Accepted.{IsAccepted}
use Rattle.desc_causes.specs.Causes.{cause_of, count_columns, makes_too_many}
use Rattle.table_desc.specs.Canonical.{table_line, table_spelled}
use Rattle.table_desc.proofs.FineLemmas.{IsFew, IsFine}
use Rattle.table_desc.proofs.KeptLemmas.{All-there}
use Rattle.table_desc.proofs.PrefixLemmas.{find_table-next, prefix}
use Rattle.table_desc.proofs.NoCauseColumnLemmas.{or-fails}
use Rattle.table_desc.proofs.NoCauseKindLemmas.{IsFineKind-placed}
use Rattle.table_desc.proofs.NoCauseSourceLemmas.{IsPlaced-there, before, has_bad_span-placed}
use Rattle.table_desc.proofs.NoCauseSourceLemmas.{has_bad_width-placed}

-- no cause speaks against a table's line that is fine
cause_of-fine : (desc : DescOf) (table : WrittenTableOf) → IsFine desc table
    → cause_of desc (TableLine table) ≡ None
cause_of-fine desc table fine = rw (
  fine.named,
  fine.different,
  fine.feed,
  fine.source,
  fine.column,
  fine.typed,
  fine.width,
  fine.span,
  fine.few,
) refl

-- a kind that does not make too many
makes_too_many-few : (desc : DescOf) (kind : WrittenKindOf) → IsFew desc kind
    → makes_too_many desc kind ≡ false
makes_too_many-few desc kind few = or-fails _ _
    (or-fails _ _ (lt-leb 64 (length desc.tables) few.tables)
    (le-ltb 16 (count_columns desc kind) few.columns)) few.parts

-- the name of a table is one
is_name-table : (desc : DescOf) (number : ℕ) (table : TableOf) → IsAccepted desc
    → slice_get desc.tables number ≡ Some table → is_name table.name ≡ true
is_name-table desc number table accepted there =
    All-there (λ name. is_name name ≡ true) (map (λ (table : TableOf). table.name) desc.tables)
    number table.name accepted.table_names.each
    (slice_get-map (λ (table : TableOf). table.name) desc.tables number
    ∙ ap (option_map (λ (table : TableOf). table.name)) there)

-- no test speaks against the line of a table
IsFine-spelled : (desc : DescOf) (number : ℕ) (table : TableOf) → IsAccepted desc
    → slice_get desc.tables number ≡ Some table
    → IsFine (before desc number) (table_spelled desc table)
IsFine-spelled desc number table accepted there =
    let placed = IsPlaced-there desc number table accepted there in
    let new = find_table-next desc (length desc.feeds) number table accepted there in
    let kind = IsFineKind-placed desc number table table.kind placed in
    record {
      named = or-fails _ _ (ap not (is_name-table desc number table accepted there)) kind.named;
      different = or-fails _ _ (ap is_some new) (ap not kind.different);
      feed = kind.feed;
      source = kind.source;
      column = kind.column;
      typed = kind.typed;
      width = has_bad_width-placed desc number table table.kind placed;
      span = has_bad_span-placed desc number table table.kind placed;
      few = makes_too_many-few _ _ kind.few;
    }

-- so no cause speaks against it
pub table-fine : (desc : DescOf) (number : ℕ) (table : TableOf) → IsAccepted desc
    → slice_get desc.tables number ≡ Some table
    → cause_of (prefix desc (length desc.feeds) number) (table_line desc table) ≡ None
table-fine desc number table accepted there =
    cause_of-fine (prefix desc (length desc.feeds) number) (table_spelled desc table)
    (IsFine-spelled desc number table accepted there)
