-- A partition that a row lies in begins in time.
use Rattle.std.proofs.Common.{◌∙◌, arith, sym}
use Rattle.std.proofs.lemmas.Bool.Decides.{nat_tests}
use Rattle.desc_types.specs.declared.table.Key.{Key}
use Rattle.raw_load.proofs.LyingLemmas.{lies_in-in_time}
use Rattle.raw_load.proofs.stretches.key_of.Goals as goal

pub returns-in-Some-clause-in_time : goal.returns-in-Some-clause-in_time
returns-in-Some-clause-in_time c =
    let key : Key = record { table = c.args.row.now.table; part = c.in-Some.part } in
    lies_in-in_time c.args.desc.now key c.args.row.now
    (sym (c.in-Some.ensures.exact c.in-Some.part) ∙ grind (arith, nat_tests))
