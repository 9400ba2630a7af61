use Rattle.std.proofs.Common.{◌≡◌, ◌∙◌, ◌*◌, ap, arith, subst, sym}
use Rattle.turn_lock.specs.Turns.{TakesTurn}
use Rattle.atomic_table.specs.Table.{rest}
use Rattle.turn_lock.proofs.TurnSteps.{frees}
use Rattle.turn_lock.proofs.turn.Turn.leave.Goals as goal

pub store-requires : goal.store-requires
store-requires g c =
    let m = g.V.Grows.meaning in
    let held = c.args.held in
    let same = c.exchange.ensures.3 in
    let number : c.exchange.new.seat.me.0.known.number ≡ held.seat.me.0.known.number =
    λ i. (same i).0.known.number in (
      c.exchange.ensures.0 ∙ c.requires.turn,
      omega (arith, c.args.self.now.sized.0),
      frees m c.args.self.now.table.shared.table_id.slots c.exchange.new.seat.id
          c.exchange.new.seat.me (rest held.seat.me.1) c.requires.may.before held.value
          (2 * c.length-length.result)
          (λ i. (same i).1)
          ((λ i. (same i).0.lives) ∙ held.holds.lives)
          ((λ i. (same i).0.found) ∙ c.requires.may.found)
          (subst (λ number. TakesTurn m number c.requires.may.before held.value) (sym number)
          c.requires.may.turn)
          (ap (λ size. 2 * size) c.length-length.ensures.exact),
    )
