-- The rows so far were named.
use Rattle.std.proofs.Common.{◌≡◌, ◌++◌, map, take}
use Rattle.view_meaning.specs.SetAside.{aside_at}
use Rattle.raw_load.proofs.sorting.push_names.Given as goal

abbrev pub invariant-loop-row : goal.invariant-loop-row
invariant-loop-row l = l.asides.items
    ≡ l.fn.asides.items ++ map (λ row. aside_at l.number row l.part) (take l.row-index l.rows)
