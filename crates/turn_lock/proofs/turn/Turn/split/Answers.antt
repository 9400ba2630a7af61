use Rattle.std.proofs.Common.{◌≡◌, ◌∙◌, ◌<◌, arith, subst, sym}
use Rattle.turn_lock.specs.Steps.{asking}
use Rattle.turn_lock.proofs.PassSteps.{splits}
use Rattle.turn_lock.proofs.RestLemmas.{Shows-split, Shows-split_off}
use Rattle.turn_lock.proofs.TurnSteps.{asks}
use Rattle.turn_lock.proofs.turn.Turn.split.Goals as goal

pub compare_exchange-requires : goal.compare_exchange-requires
compare_exchange-requires g c = (
  c.requires.turn,
  omega (arith, c.args.self.now.sized.0),
  asks g.V.Grows.meaning c.args.self.now.table.shared.table_id.slots c.args.pass.now.seat.id
      c.args.pass.now.seat.me c.args.room c.args.pass.now.rests,
)

pub split_seat-seat-requires : goal.split_seat-seat-requires
split_seat-seat-requires g c =
    let seat = c.compare_exchange.new.seat in
    let view : seat.me.0 ≡ asking c.args.pass.now.seat.me.0.known c.args.room =
    λ i. (c.compare_exchange.ensures.2 i).0 in (
      c.compare_exchange.ensures.0 ∙ c.requires.turn,
      omega (arith, c.args.self.now.sized.0),
      splits g.V.Grows.meaning seat.id seat.me.0 (λ i. (view i).lives) (λ i. (view i).found)
          (subst (λ view. view.asked < view.known.room) (sym view) c.requires.room),
    )

pub invariant_of-pass : goal.invariant_of-pass
invariant_of-pass g c =
    let pass = c.args.pass.now in
    let shows = Shows-split pass.number pass.room pass.seen c.args.room pass.seat.me
    c.compare_exchange.new.seat.me c.split_seat-seat.new.seat.me
    record {
      rests = pass.rests;
      number_is = pass.number_is;
      room_is = pass.room_is;
      seen_is = pass.seen_is;
      within = pass.within;
    }
    c.requires.room c.compare_exchange.ensures.2 c.split_seat-seat.ensures.2 in
    record {
      rests = shows.rests;
      number_is = shows.number_is;
      room_is = shows.room_is;
      seen_is = shows.seen_is;
      within = shows.within;
    }

pub invariant_of-result : goal.invariant_of-result
invariant_of-result g c =
    let pass = c.args.pass.now in
    let shows = Shows-split_off g.V.Grows.meaning.unused pass.number pass.room pass.seen c.args.room
    pass.seat.me c.compare_exchange.new.seat.me c.split_seat-seat.result.me
    record {
      rests = pass.rests;
      number_is = pass.number_is;
      room_is = pass.room_is;
      seen_is = pass.seen_is;
      within = pass.within;
    }
    c.requires.room c.compare_exchange.ensures.2 c.split_seat-seat.ensures.4 in
    record {
      rests = shows.rests;
      number_is = shows.number_is;
      room_is = shows.room_is;
      seen_is = shows.seen_is;
      within = shows.within;
    }
