use Rattle.std.proofs.Common.{◌≡◌, ◌≤◌, take}
use Rattle.std.specs.Prelude.{count_by}
use Rattle.std.specs.List.{list_any}
use Rattle.view_meaning.specs.TableRows.{lies_in_table}
use Rattle.view_meaning.proofs.plain.plain_version.Given as goal

-- the version is that of the deliveries so far
abbrev pub invariant-loop-delivery : goal.invariant-loop-delivery
invariant-loop-delivery l = record {
  counted : l.version ≡ count_by (λ delivery. list_any (lies_in_table l.table l.key) delivery.rows)
      (take l.delivery-index l.deliveries);
  few : l.version ≤ l.delivery-index;
}
