use Rattle.turn_lock.specs.Passes.{told_by}
use Rattle.turn_tests.proofs.PassLemmas.{HasEach-told}
use Rattle.turn_tests.proofs.threads.many_callers.Goals as goal

pub returns : goal.returns
returns g c = record {
  each = HasEach-told c.args.numbers.now (told_by c.args.pass.seat)
      (told_by c.add_in_threads-pass.result.seat) c.close.result
      c.add_in_threads-pass.ensures.added c.close.ensures.tells;
}
