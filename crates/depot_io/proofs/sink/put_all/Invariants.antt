-- The sink has got the bytes so far, and no call has failed; within its room it has lost as much.
use Rattle.std.proofs.Common.{length, ◌-◌, ◌≤◌, ◌≡◌, take}
use Rattle.std.specs.Io.KnownBytes.{Appends}
use Rattle.depot_io.specs.Puts.{HasRoomFor, room_after}
use Rattle.depot_io.proofs.sink.put_all.Given as goal

abbrev pub invariant-loop-at : goal.invariant-loop-at
invariant-loop-at g l = record {
  within : l.at ≤ length l.bytes;
  put : Appends (g.O.Sink.bytes_got l.initial.sink) (g.O.Sink.bytes_got l.sink) (take l.at l.bytes);
  room : HasRoomFor (g.O.Sink.room l.initial.sink) (length l.bytes)
      → g.O.Sink.room l.sink ≡ room_after (g.O.Sink.room l.initial.sink) l.at;
  kept : g.O.Sink.faults l.sink ≡ g.O.Sink.faults l.initial.sink;
}

abbrev pub decreases-loop-at : goal.decreases-loop-at
decreases-loop-at g l = length l.bytes - l.at
