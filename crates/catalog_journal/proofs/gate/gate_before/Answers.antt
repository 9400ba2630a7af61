use Rattle.catalog_journal.proofs.GateLemmas.{IsGate-closed}
use Rattle.catalog_journal.proofs.gate.gate_before.Goals as goal

pub returns-else-gate-eq1 : goal.returns-else-gate-eq1
returns-else-gate-eq1 c = record {
  exact = IsGate-closed c.args.gate c.args.rest.now c.if-gate-eq1.false;
}
