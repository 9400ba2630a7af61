-- What a claim that is given up leaves.
use Rattle.std.proofs.Common.{sym}
use Rattle.core_tests.proofs.PlayedLemmas.{IsPlayed-abandon}
use Rattle.core_tests.proofs.playing.Played.abandon.Goals as goal

pub invariant_of-self : goal.invariant_of-self
invariant_of-self c = IsPlayed-abandon c.self.inside.core c.step_abandon.new.self c.in-Some._claim.who
    c.args.id c.self.inside.lines.now c.self.inside.entries.items c.self.inside.pin
    (c.step_abandon.ensures.step c.in-Some._claim (sym c.in-Some.ensures.exact)) c.self.invariant
