-- The bytes so far were taken off the source, and stand at the front of the piece.
use Rattle.std.proofs.Common.{◌≡◌, ◌≤◌, ◌+◌, ◌-◌, length, take}
use Rattle.std.specs.Io.KnownBytes.{Consumes}
use Rattle.depot_io.proofs.line_reader.fill_piece.Given as goal

abbrev pub invariant-loop-filled : goal.invariant-loop-filled
invariant-loop-filled g l = record {
  within : l.filled ≤ length l.piece;
  took : Consumes (g.S.Source.bytes_left l.initial.source) (g.S.Source.bytes_left l.source)
      (take l.filled l.piece);
  counted : l.taken ≡ l.initial.taken + l.filled;
  kept : g.S.Source.faults l.source ≡ g.S.Source.faults l.initial.source;
  loan : g.S.Source.loan l.source ≡ g.S.Source.loan l.initial.source;
}

abbrev pub decreases-loop-filled : goal.decreases-loop-filled
decreases-loop-filled g l = length l.piece - l.filled
