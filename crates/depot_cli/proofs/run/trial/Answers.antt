-- The run is that of the session after the description, if that was read.
use Rattle.std.proofs.lemmas.Option.{IfSome_then}
use Rattle.depot_cli.proofs.RunLemmas.{IsRun-misdescribed, IsRun-opened, IsRun-unopened}
use Rattle.depot_cli.proofs.RunLemmas.{read_of-err, read_of-ok}
use Rattle.depot_cli.proofs.run.trial.Goals as goal

pub returns-in-Ok-into_read-clause-run : goal.returns-in-Ok-into_read-clause-run
returns-in-Ok-into_read-clause-run g c =
    IfSome_then _ c.in-Ok.ensures.answer (λ input opened.
    IsRun-opened input c.in-Ok.opened.0 c.in-Ok-into_read.served.desc c.in-Ok.opened.1 _ _ _ _ _ _
    opened (read_of-ok _ _ _ c.into_read.ensures.exact c.in-Ok-into_read.is)
    c.serve_source.ensures.run)

pub returns-in-Err-clause-run : goal.returns-in-Err-clause-run
returns-in-Err-clause-run g c =
    rw c.status_of.ensures.exact (IfSome_then _ c.in-Err.ensures.answer (λ input breaks.
    IsRun-unopened input (g.O.Sink.bytes_got c.args.sink.now)
    (g.S.Source.bytes_left c.open.new.source) (g.O.Sink.room c.args.sink.now) c.in-Err.fault
    breaks))

pub returns-in-Err-into_read-clause-run : goal.returns-in-Err-into_read-clause-run
returns-in-Err-into_read-clause-run g c =
    IfSome_then _ c.in-Ok.ensures.answer (λ input opened.
    IsRun-misdescribed input c.in-Ok.opened.0 c.in-Ok.opened.1 c.in-Err-into_read.bad _ _ _ opened
    (read_of-err _ _ _ c.into_read.ensures.exact c.in-Err-into_read.is))
