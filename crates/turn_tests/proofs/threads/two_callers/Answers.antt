use Rattle.std.proofs.Common.{subst}
use Rattle.turn_lock.specs.Passes.{TellsAll, told_by}
use Rattle.turn_tests.specs.Numbers.{numbers}
use Rattle.turn_tests.proofs.PassLemmas.{HasBoth-told}
use Rattle.turn_tests.proofs.threads.two_callers.Goals as goal

pub returns : goal.returns
returns g c = record {
  both = HasBoth-told c.args.first.now c.args.second.now (told_by c.args.pass.seat)
      (told_by c.split-other.new.pass.seat) (told_by c.split-other.result.seat)
      (told_by c.add_in_two-pass.result.0.seat) (told_by c.add_in_two-pass.result.1.seat)
      c.close.result c.requires.first
      (record { left = c.split-other.ensures.told; right = c.split-other.ensures.other })
      c.add_in_two-pass.ensures.one c.add_in_two-pass.ensures.other
      (subst (λ known. TellsAll numbers known c.close.result) c.join.ensures.told
      c.close.ensures.tells);
}
