use Rattle.std.proofs.Common.{◌∙◌, subst, sym}
use Rattle.turn_lock.specs.Steps.{IsResting}
use Rattle.turn_lock.proofs.turn.Turn.enter.Goals as goal

pub attempt-requires : goal.attempt-requires
attempt-requires g c = record {
  turn = c.loop.invariant.0 ∙ c.requires.turn;
  rests = subst (λ me. IsResting me) (sym c.loop.invariant.1) c.args.pass.rests;
}
