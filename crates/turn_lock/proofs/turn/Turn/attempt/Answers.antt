use Rattle.std.proofs.Common.{◌≡◌, ◌∙◌, ◌∷◌, Some, ap, arith, sym}
use Rattle.atomic_table.specs.Table.{rest}
use Rattle.turn_lock.proofs.TurnSteps.{tries}
use Rattle.turn_lock.proofs.turn.Turn.attempt.Goals as goal

pub compare_exchange-requires : goal.compare_exchange-requires
compare_exchange-requires g c = (
  c.requires.turn,
  omega (arith, c.args.self.now.sized.0),
  tries g.V.Grows.meaning c.args.self.now.table.shared.table_id.slots c.args.seat.now.id
      c.args.seat.now.me c.peek-found.result c.requires.rests
      c.if-found-ne0.false,
)

pub exchange-requires : goal.exchange-requires
exchange-requires g c =
    let won = c.compare_exchange.ensures.2.0 c.if-compare_exchange-found.false in
    let slots : c.compare_exchange.new.seat.me.1 ≡ (0, Some won.0) ∷ c.args.seat.now.me.1 =
    λ i. (won.1 i).1 in (
      c.compare_exchange.ensures.0 ∙ c.requires.turn,
      (Some won.0, slots ∙ ap (λ slots. (0, Some won.0) ∷ rest slots) (sym slots)),
    )
