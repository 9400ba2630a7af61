use Rattle.std.proofs.Common.{◌≡◌, ◌++◌, take}
use Rattle.std.specs.Prelude.{flat_map}
use Rattle.view_meaning.specs.TableRows.{lies_in_table, cells_where}
use Rattle.view_meaning.proofs.plain.push_raw.Given as goal

-- the rows are those from before, and those of the deliveries so far
abbrev pub invariant-loop-delivery : goal.invariant-loop-delivery
invariant-loop-delivery l = l.rows
    ≡ l.fn.rows ++ flat_map (λ delivery. cells_where (lies_in_table l.table l.key) delivery.rows)
    (take l.delivery-index l.deliveries)
