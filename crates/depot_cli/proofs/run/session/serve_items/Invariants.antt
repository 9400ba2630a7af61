-- The items so far are served; nothing else of the source and the sink changed than what was
-- taken and put. The description is the one with which the journal began.
use Rattle.std.proofs.Common.{◌≡◌, ◌+◌, ◌-◌, ◌≤◌, IfSome}
use Rattle.depot_io.specs.Lines.{LIMIT}
use Rattle.depot_cli.specs.Reading.{session}
use Rattle.depot_cli.specs.SerialJournal.{made_of}
use Rattle.run_journal.specs.KeptJournals.{IsKept}
use Rattle.depot_cli.proofs.SessionLemmas.{HasServed}
use Rattle.depot_cli.proofs.run.session.serve_items.Given as goal

abbrev pub invariant-items : goal.invariant-items
invariant-items g l = record {
  served : IfSome (g.S.Source.bytes_left l.fn.reader.source) (λ input.
      HasServed l.fn.journal.core.desc l.base (session l.fn.journal.core.desc l.base input)
      (g.O.Sink.bytes_got l.fn.sink) (g.O.Sink.bytes_got l.sink)
      (g.O.Sink.room l.fn.sink) (g.O.Sink.room l.sink) (made_of l.journal) l.line l.refused
      l.reader.taken (g.S.Source.bytes_left l.reader.source));
  kept : IsKept l.fn.journal.core.desc l.journal;
  lines : l.line ≤ l.reader.taken + 1;
  within : l.reader.taken ≤ LIMIT;
  read : g.S.Source.faults l.reader.source ≡ g.S.Source.faults l.fn.reader.source;
  written : g.O.Sink.faults l.sink ≡ g.O.Sink.faults l.fn.sink;
  loan : g.S.Source.loan l.reader.source ≡ g.S.Source.loan l.fn.reader.source;
}

abbrev pub decreases-items : goal.decreases-items
decreases-items g l = LIMIT - l.reader.taken
