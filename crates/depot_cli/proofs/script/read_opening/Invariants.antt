-- The lines so far are drafted; nothing else of the source changed than what was taken.
use Rattle.std.proofs.Common.{◌≡◌, ◌-◌, ◌≤◌, IfSome}
use Rattle.depot_io.specs.Lines.{LIMIT}
use Rattle.depot_io.specs.Reading.{ReadsOn}
use Rattle.depot_cli.specs.Reading.{opening}
use Rattle.depot_cli.proofs.OpeningLemmas.{HasOpened}
use Rattle.depot_cli.proofs.script.read_opening.Given as goal

abbrev pub invariant-lines : goal.invariant-lines
invariant-lines g l = record {
  opened : IfSome (g.S.Source.bytes_left l.fn.reader.source) (λ bytes.
      HasOpened (opening bytes) l.draft l.reader.taken (g.S.Source.bytes_left l.reader.source));
  few : l.draft.lines ≤ l.reader.taken;
  faults : g.S.Source.faults l.reader.source ≡ g.S.Source.faults l.fn.reader.source;
  kept : ReadsOn g.S.Source.bytes_left g.S.Source.loan l.fn.reader l.reader;
}

abbrev pub decreases-lines : goal.decreases-lines
decreases-lines g l = LIMIT - l.reader.taken
