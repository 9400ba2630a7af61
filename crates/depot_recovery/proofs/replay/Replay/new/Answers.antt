-- Record 0 was read, and no other.
use Rattle.std.proofs.Common.{◌∙◌, Ok, ap, sym}
use Rattle.desc_types.specs.Descriptions.{DescOf}
use Rattle.depot_recovery.proofs.ReplayLemmas.{HasRead-first}
use Rattle.depot_recovery.proofs.replay.Replay.new.Goals as goal

pub returns-clause-exact : goal.returns-clause-exact
returns-clause-exact c =
    let read = rw c.in-Some.is at c.in_ok-served.ensures.exact in (
      HasRead-first c.args.first.now c.in-Some.served.desc c.in-Ok.core c.in_ok-of_bodies.field-0
          read.0 read.1 c.in-Ok.ensures.ok c.in_ok-of_bodies.ensures.noted,
      read.2 ∙ ap (λ (desc : DescOf). Ok desc) (sym c.in-Ok.ensures.ok.served),
    )
