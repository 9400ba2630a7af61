-- Each line of an accepted description declares its feed or its table: `declares-each`.
use Rattle.std.proofs.Common.{◌≡◌, ◌∙◌, ℕ, ◌+◌, Some, Ok, ap, length}
use Rattle.std.specs.Prelude.{slice_get}
use Rattle.desc_types.specs.Accepted.{IsAccepted}
use Rattle.desc_types.specs.Descriptions.{DescOf}
use Rattle.desc_types.specs.Tables.{TableOf}
use Rattle.table_desc.specs.Canonical.{table_line}
use Rattle.table_desc.specs.Declarations.{with_table}
use Rattle.table_desc.specs.Described.{unless_bad, with_written}
use Rattle.table_desc.proofs.NoCauseLemmas.{table-fine}
use Rattle.table_desc.proofs.PrefixLemmas.{DeclaresEach, prefix}
use Rattle.table_desc.proofs.SameFeedLemmas.{with_written-feed}
use Rattle.table_desc.proofs.SameTableLemmas.{declared_table-spelled}
use Rattle.table_desc.proofs.SameTableLemmas.{with_table-prefix}

-- the line of a table declares it, after all feeds and the tables before it
with_written-table : (desc : DescOf) (number : ℕ) (table : TableOf) → IsAccepted desc
    → slice_get desc.tables number ≡ Some table
    → with_written (prefix desc (length desc.feeds) number) (Some (table_line desc table))
    ≡ Ok (prefix desc (length desc.feeds) (number + 1))
with_written-table desc number table accepted there =
    let before = prefix desc (length desc.feeds) number in
    ap (unless_bad before (table_line desc table)) (table-fine desc number table accepted there)
    ∙ ap (λ declared. Ok (with_table before declared))
    (declared_table-spelled desc number table accepted there)
    ∙ ap Ok (with_table-prefix desc (length desc.feeds) number table there)

-- each line declares what it is of
pub declares-each : (desc : DescOf) → IsAccepted desc → DeclaresEach desc
declares-each desc accepted = record {
  feed = λ number feed there. with_written-feed desc number 0 feed accepted there;
  table = λ number table there. with_written-table desc number table accepted there;
}
