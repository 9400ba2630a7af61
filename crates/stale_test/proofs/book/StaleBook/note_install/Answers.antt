-- The book tells of the journal with the install.
use Rattle.std.proofs.Common.{refl}
use Rattle.stale_test.proofs.HistoryLemmas.{AreBefore-next}
use Rattle.stale_test.proofs.InstallLemmas.{TellsStale-Install}
use Rattle.stale_test.proofs.book.StaleBook.note_install.Goals as goal

pub returns-clause-exact : goal.returns-clause-exact
returns-clause-exact c =
    let past = rw (← c.self.view_is) at c.requires.past in
    rw (← c.self.view_is)
    (λ journal ready tells.
    TellsStale-Install c.args.served.now.desc journal c.args.key c.args.at _ _
    record {
      tells = tells;
      ready = ready;
      part = c.requires.part;
      view = c.requires.view;
      past = rw tells.entries at past;
    }
    (AreBefore-next c.self.inside.entries c.self.inside.kept.parts.entries c.self.invariant)
    record {
      entries = refl;
      parts = c.install.ensures.exact.parts;
      standing = c.install.ensures.exact.standing;
      worst = c.install.ensures.exact.worst;
      unsettled = c.install.ensures.exact.unsettled;
    })
