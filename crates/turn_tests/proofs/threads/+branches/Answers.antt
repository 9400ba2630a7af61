use Rattle.std.proofs.Common.{◌-◌, ◌/◌}
use Rattle.turn_lock.specs.Passes.{told_by}
use Rattle.turn_tests.proofs.PassLemmas.{EachAdded-join, EachAdded-one}
use Rattle.turn_tests.proofs.threads.+branches.Goals as goal

pub returns-then-others-eq0-clause-added : goal.returns-then-others-eq0-clause-added
returns-then-others-eq0-clause-added g n c =
    EachAdded-one c.args.numbers.now (told_by c.args.pass.seat) (told_by c.add_some.result.seat)
    c.requires.unspent c.add_some.ensures.told

pub returns-clause-added : goal.returns-clause-added
returns-clause-added g n c =
    EachAdded-join c.args.numbers.now (told_by c.args.pass.seat)
    (told_by c.split-child.new.pass.seat) (told_by c.split-child.result.seat) ((c.args.others - 1) / 2)
    (told_by c.join-pass.result.0.seat) (told_by c.join-pass.result.1.seat)
    (told_by c.join.new.pass.seat)
    (record { left = c.split-child.ensures.told; right = c.split-child.ensures.other })
    c.join-pass.ensures.first.1 c.join-pass.ensures.second.1 c.join.ensures.told
