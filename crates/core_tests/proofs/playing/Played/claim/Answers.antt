-- A claim leaves the entries and the last pin, and its pin keeps what its ticket tells.
use Rattle.core_tests.proofs.ClaimLemmas.{versions_at-claimed}
use Rattle.core_tests.proofs.PlayedLemmas.{IsPlayed-claim}
use Rattle.core_tests.proofs.playing.Played.claim.Goals as goal

pub keeps_inputs-requires : goal.keeps_inputs-requires
keeps_inputs-requires c = record {
  kept = versions_at-claimed c.self.inside.core c.step_claim.new.self 7 c.args.key c.in-Ok.ticket
      c.in-Ok.ensures.ok c.in-Ok.ensures.ticket c.in-Ok.ensures.own;
}

pub invariant_of-self : goal.invariant_of-self
invariant_of-self c = IsPlayed-claim c.self.inside.core c.step_claim.new.self 7 c.args.key
    c.self.inside.lines.now c.self.inside.entries.items c.self.inside.pin c.in-Ok.ensures.ok
    c.self.invariant
