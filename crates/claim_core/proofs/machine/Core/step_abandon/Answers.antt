-- The claim ends with its pin, and nothing else changes.
use Rattle.std.proofs.Common.{refl}
use Rattle.machine_meaning.specs.Events.{Abandons}
use Rattle.claim_core.proofs.EndLemmas.{IsSome-claimed, IsSound-ended, Step-Abandons}
use Rattle.claim_core.proofs.SoundLemmas.{Steps-from}
use Rattle.claim_core.proofs.machine.Core.step_abandon.Goals as goal

pub unpin-requires : goal.unpin-requires
unpin-requires c = record {
  there = IsSome-claimed _ _ c.args.id c.self.invariant.good
      (rw (← c.self.view_is) at c.requires.claim);
}

pub invariant_of-self : goal.invariant_of-self
invariant_of-self c =
    IsSound-ended _ _ _ c.args.id
    record { desc = refl; journal = refl; told = refl; marks = refl; stale = refl }
    (rw (← c.self.view_is) at c.requires.claim)
    (rw (c.unpin.ensures.exact, c.end_claim.ensures.exact) refl) c.self.invariant

pub returns : goal.returns
returns c =
    rw (← c.self.view_is)
    record {
      step = λ claim found.
          Steps-from _ _ (Abandons claim.who c.args.id) refl c.self.invariant.good
          (Step-Abandons c.self.inside.served.desc _ _ c.args.id claim found
          (rw (c.unpin.ensures.exact, c.end_claim.ensures.exact) refl));
    }
