-- The bytes so far were taken off the source, stand in the line, and have no LF among them.
use Rattle.std.proofs.Common.{◌≡◌, ◌+◌, length, vec_capacity}
use Rattle.std.specs.Io.KnownBytes.{Consumes}
use Rattle.depot_io.specs.Lines.{span}
use Rattle.depot_io.proofs.line_reader.take_line.Given as goal

abbrev pub invariant-loop : goal.invariant-loop
invariant-loop g l = record {
  took : Consumes (g.S.Source.bytes_left l.initial.source) (g.S.Source.bytes_left l.source)
      l.line.items;
  counted : l.taken ≡ l.initial.taken + length l.line.items;
  len : length l.line.items ≡ l.counter;
  unbroken : span l.line.items ≡ length l.line.items;
  capacity : vec_capacity l.line ≡ vec_capacity l.initial.line;
  kept : g.S.Source.faults l.source ≡ g.S.Source.faults l.initial.source;
  loan : g.S.Source.loan l.source ≡ g.S.Source.loan l.initial.source;
}
