-- A pin that ends leaves the journal as it was before it.
use Rattle.std.proofs.Common.{refl}
use Rattle.run_journal.proofs.PinningLemmas.{TellsAsBefore-unpin}
use Rattle.run_journal.proofs.journal.Journal.unpin.Goals as goal

pub returns : goal.returns
returns c = record {
  kept = λ before.
      TellsAsBefore-unpin before c.args.self.now _ c.args.id c.requires.pin
      (rw (← c.self.view_is) c.step_unpin.ensures.step) (rw (← c.self.view_is) refl);
}
