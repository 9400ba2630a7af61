-- What the next call took is the front of the bytes that were not put yet.
use Rattle.std.proofs.Common.{rules, ap, sym, length, arith, length-drop}
use Rattle.std.proofs.Math.Seq.{take-add}
use Rattle.std.proofs.lemmas.List.{take_rest}
use Rattle.std.proofs.KnownBytes.{Appends-trans}
use Rattle.depot_io.proofs.RoomLemmas.{room_after-empty, room_after-step, TakesWithin-none}
use Rattle.depot_io.proofs.sink.put_all.Goals as goal

pub loop-at-init : goal.loop-at-init
loop-at-init g c = record {
  within = search rules;
  put = search rules;
  room = λ _. sym (room_after-empty _);
  kept = search rules;
}

pub loop-at-preserved : goal.loop-at-preserved
loop-at-preserved g c =
    let step = rw take_rest at c.in-Ok.ensures.gained in
    record {
      within = search rules;
      put = rw (take-add c.loop-at.at c.in-Ok.count c.args.bytes.now)
          (Appends-trans _ _ _ _ _ c.loop-at.invariant.put step);
      room = room_after-step _ _ _ c.loop-at.at c.in-Ok.count c.args.bytes.now _
          c.loop-at.invariant.room (omega (
            arith,
            ap length (take_rest c.args.bytes.now c.loop-at.at),
            length-drop c.loop-at.at c.args.bytes.now,
          )) c.in-Ok.ensures.room;
      kept = search rules;
    }

pub returns-in-Err-clause-room : goal.returns-in-Err-clause-room
returns-in-Err-clause-room g c = λ fits. absurd (TakesWithin-none _ _ _ c.loop-at.at
    c.args.bytes.now _ _ c.loop-at.invariant.room
    (omega (
      arith,
      ap length (take_rest c.args.bytes.now c.loop-at.at),
      length-drop c.loop-at.at c.args.bytes.now,
    )) c.in-Err.ensures.room fits)
