-- Each entry is restored after those before it.
use Rattle.std.proofs.Common.{◌∷◌, arith}
use Rattle.claim_core.proofs.RestartLemmas.{FitsEntry-next, HasRestored, HasRestored-step}
use Rattle.claim_core.proofs.RestartLemmas.{IsFound-all, IsFound-own, MayFollow-next}
use Rattle.claim_core.proofs.machine.Core.restart.Goals as goal

pub loop-entry-init : goal.loop-entry-init
loop-entry-init c = record {
  whole = c.into_iter-entry-iterator.ensures.into_iter_gives.0;
  found = c.in-Ok.ensures.ok;
}

-- the entry that was read is the first one left
before : (c : goal.After-core-in-loop-entry-1) → HasRestored c.args.served.desc c.args.entries.items
    c.loop-entry.yielded (c.in-Some.entry ∷ c.next.new.self.rest.items) c.loop-entry.core
before c = rw (← c.in-Some.ensures.steps.0) c.loop-entry.invariant

pub restore-requires-clause-found : goal.restore-requires-clause-found
restore-requires-clause-found c =
    IsFound-own c.args.served.desc c.args.entries.items c.loop-entry.yielded _ c.loop-entry.core
    c.loop-entry.invariant

pub restore-requires-clause-fits : goal.restore-requires-clause-fits
restore-requires-clause-fits c =
    FitsEntry-next c.args.served.desc c.args.entries.items c.loop-entry.yielded _ c.in-Some.entry
    c.loop-entry.core (before c) c.requires.fits

pub restore-requires-clause-follows : goal.restore-requires-clause-follows
restore-requires-clause-follows c =
    MayFollow-next c.args.served.desc c.args.entries.items c.loop-entry.yielded _ c.in-Some.entry
    c.loop-entry.core (before c) c.requires.legal

pub loop-entry-preserved : goal.loop-entry-preserved
loop-entry-preserved c =
    HasRestored-step c.args.served.desc c.args.entries.items c.loop-entry.yielded _ c.in-Some.entry
    c.loop-entry.core c.restore.new.self
    (rw (← c.in-Some.ensures.steps.0) c.loop-entry.invariant) c.in_ok-restore.ensures.ok

pub returns : goal.returns
returns c = record {
  ok = IsFound-all c.args.served.desc c.args.entries.items c.loop-entry.yielded _ c.loop-entry.core
      c.loop-entry.invariant
      (omega (arith, c.loop-entry.entry-iterator.rest.ok.0, c.in-None.ensures.steps.0));
}
