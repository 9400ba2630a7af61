-- the conditions so far are the first ones
use Rattle.std.proofs.Common.{◌≡◌, take}
use Rattle.std.specs.Prelude.{filter_map}
use Rattle.table_desc.specs.Declarations.{declared_cond}
use Rattle.table_desc.proofs.parts.declared_conds.Given as goal

abbrev pub invariant-loop-cond : goal.invariant-loop-cond
invariant-loop-cond l =
    l.made.items ≡ filter_map (declared_cond l.columns) (take l.cond-index l.conds)
