-- A core of no entries is kept, with no rows.
use Rattle.std.proofs.Common.{ap, refl}
use Rattle.machine_meaning.specs.States.{State}
use Rattle.run_journal.proofs.KeptLemmas.{IsKept-found}
use Rattle.run_journal.proofs.journal.Journal.new.Goals as goal

pub returns-in-Ok : goal.returns-in-Ok
returns-in-Ok c =
    let none = ap (λ (state : State). state.journal) c.in-Ok.ensures.ok.state in
    record {
      entries = none;
      reclaimed = rw (none, c.new-in-Ok.ensures.exact) refl;
      kept = rw c.new-in-Ok.ensures.exact (IsKept-found c.args.served.desc c.in-Ok.core
          c.args.served.is_served.earlier c.in-Ok.ensures.ok);
    }
