use Rattle.std.proofs.Common.{refl}
use Rattle.turn_tests.proofs.NumberLemmas.{Adds-finish}
use Rattle.turn_tests.proofs.numbers.Numbers.finish.Goals as goal

pub returns-clause-adds : goal.returns-clause-adds
returns-clause-adds c =
    Adds-finish c.args.by c.args.self.now _ refl refl refl c.or-self.ensures refl refl
