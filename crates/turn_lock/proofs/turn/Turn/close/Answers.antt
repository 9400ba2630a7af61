use Rattle.std.proofs.Common.{◌∙◌, Some, ap, is_some, subst, sym, true≢false, unwrap_or}
use mathlib.Core.Option.{some-injective}
use Rattle.turn_lock.specs.Passes.{TellsAll, told_by}
use Rattle.turn_lock.proofs.PassSteps.{closes}
use Rattle.turn_lock.proofs.turn.Turn.close.Goals as goal

pub unreachable-requires : goal.unreachable-requires
unreachable-requires g c =
    let pass = c.args.pass in
    let home = closes g.V.Grows.meaning pass.seat.id pass.seat.me.0 _ _
    (λ i. (pass.rests.view i).lives) (λ i. (pass.rests.view i).found)
    c.requires.first c.requires.none_left c.close_with-closed.ensures.values.2 in
    let slot = some-injective (Some home.0) c.take-slot.result
    (sym home.1 ∙ c.take-slot.ensures.value) in
    true≢false (ap is_some (slot ∙ c.in-None.is))

pub returns : goal.returns
returns g c =
    let pass = c.args.pass in
    let home = closes g.V.Grows.meaning pass.seat.id pass.seat.me.0 _ _
    (λ i. (pass.rests.view i).lives) (λ i. (pass.rests.view i).found)
    c.requires.first c.requires.none_left c.close_with-closed.ensures.values.2 in
    let slot = some-injective (Some home.0) c.take-slot.result
    (sym home.1 ∙ c.take-slot.ensures.value) in
    let value = ap (λ told. unwrap_or told home.0) (slot ∙ c.in-Some.is) in
    record {
      tells = subst (λ value. TellsAll g.V.Grows.meaning (told_by pass.seat) value) value home.2;
    }
