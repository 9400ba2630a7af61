-- the conditions so far are the first ones
use Rattle.std.proofs.Common.{◌≡◌, take}
use Rattle.table_desc.proofs.writing.spelling.words_of_conds.Given as goal

abbrev pub invariant-loop-cond : goal.invariant-loop-cond
invariant-loop-cond l = l.made.items ≡ take l.cond-index l.conds
