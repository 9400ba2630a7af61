use Rattle.desc_types.proofs.ServedLemmas.{accepted-served}
use Rattle.desc_types.proofs.accepted.AcceptedDesc.new.Goals as goal

pub invariant_of-result : goal.invariant_of-result
invariant_of-result c = record {
  is_accepted = c.requires.accepted;
  is_served = accepted-served c.args.desc c.requires.accepted;
}
