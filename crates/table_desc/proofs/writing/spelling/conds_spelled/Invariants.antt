-- the conditions so far are the first ones
use Rattle.std.proofs.Common.{◌≡◌, map, take}
use Rattle.table_desc.specs.Canonical.{cond_spelled}
use Rattle.table_desc.proofs.writing.spelling.conds_spelled.Given as goal

abbrev pub invariant-loop-cond : goal.invariant-loop-cond
invariant-loop-cond l = l.made.items ≡ map (cond_spelled l.columns) (take l.cond-index l.conds)
