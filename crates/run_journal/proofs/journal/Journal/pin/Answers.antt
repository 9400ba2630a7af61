-- What a request is shown is pinned, and may be read.
use Rattle.std.proofs.Common.{refl}
use Rattle.run_journal.proofs.PinningLemmas.{IsPinnedIn-answer}
use Rattle.run_journal.proofs.journal.Journal.pin.Goals as goal

pub returns-clause-ok : goal.returns-clause-ok
returns-clause-ok c =
    IsPinnedIn-answer c.args.self.now _ c.args.request.now c.step_pin.result c.requires.kept
    (rw (← c.self.view_is) c.step_pin.ensures.ok) (rw (← c.self.view_is) c.step_pin.ensures.exact)
    c.step_pin.ensures.own (rw (← c.self.view_is) refl)
