-- The rows so far lie in the partition.
use Rattle.std.proofs.Common.{◌≡◌, take}
use Rattle.std.specs.Prelude.{All, true}
use Rattle.view_meaning.specs.TableRows.{lies_in_table}
use Rattle.raw_load.proofs.stretches.run_len.Given as goal

abbrev pub invariant-loop-row : goal.invariant-loop-row
invariant-loop-row l = record {
  counted : l.count ≡ l.row-index;
  each : All (λ row. lies_in_table l.table l.key row ≡ true) (take l.row-index l.rows);
}
