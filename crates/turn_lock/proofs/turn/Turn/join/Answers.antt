use Rattle.std.proofs.Common.{arith}
use Rattle.turn_lock.proofs.PassSteps.{joins}
use Rattle.turn_lock.proofs.RestLemmas.{Shows-join}
use Rattle.turn_lock.proofs.turn.Turn.join.Goals as goal

pub join_seat-requires : goal.join_seat-requires
join_seat-requires g c =
    let pass = c.args.pass.now in
    let other = c.args.other in (
      c.requires.turn.0,
      c.requires.turn.1,
      other.rests.slots,
      omega (arith, c.args.self.now.sized.0),
      joins g.V.Grows.meaning pass.seat.id pass.seat.me.0 other.seat.id other.seat.me.0
          (λ i. (pass.rests.view i).lives) (λ i. (pass.rests.view i).found)
          (λ i. (other.rests.view i).lives) (λ i. (other.rests.view i).found)
          c.requires.parent c.requires.none_left,
    )

pub invariant_of-pass : goal.invariant_of-pass
invariant_of-pass g c =
    let pass = c.args.pass.now in
    let other = c.args.other in
    let shows = Shows-join pass.number pass.room pass.seen other.seen c.max-pass.result pass.seat.me
    other.seat.me c.join_seat.new.seat.me
    record {
      rests = pass.rests;
      number_is = pass.number_is;
      room_is = pass.room_is;
      seen_is = pass.seen_is;
      within = pass.within;
    }
    other.seen_is c.max-pass.ensures c.join_seat.ensures.2 in
    record {
      rests = shows.rests;
      number_is = shows.number_is;
      room_is = shows.room_is;
      seen_is = shows.seen_is;
      within = shows.within;
    }

pub returns : goal.returns
returns g c = record {
  turn = c.join_seat.ensures.0;
  told = λ i. (c.join_seat.ensures.2 i).0.known;
}
