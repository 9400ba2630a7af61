use Rattle.catalog_journal.proofs.GateLemmas.{IsGate-empty, IsGate-split}
use Rattle.catalog_journal.proofs.gate.gate_of.Goals as goal

pub returns-in-empty : goal.returns-in-empty
returns-in-empty c = record { exact = IsGate-empty c.args.bytes.now c.in-empty.len_below }

pub returns-in-len1-up : goal.returns-in-len1-up
returns-in-len1-up c = record {
  exact = IsGate-split c.args.bytes.now c.gate_before.result c.in-len1-up.len_at_least
      c.gate_before.ensures.exact;
}
