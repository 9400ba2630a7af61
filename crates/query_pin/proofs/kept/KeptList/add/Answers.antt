-- The version is the newest now, and the one before it is below it.
use Rattle.std.proofs.Common.{arith, subst}
use Rattle.query_pin.proofs.KeptLemmas.{IsKeptList-add, KeepsNewest}
use Rattle.query_pin.proofs.kept.KeptList.add.Goals as goal

pub invariant_of-self : goal.invariant_of-self
invariant_of-self c =
    IsKeptList-add c.args.added.key
    (record { version = c.args.added.version; entry = c.args.added.entry })
    c.self.inside.newest.entries c.put_newest.new.newest.entries
    c.self.inside.replaced.entries c.keep_newest.new.replaced.entries c.self.invariant
    (record {
      newer = rw (← c.self.view_is) at c.requires.newer;
      small = omega arith;
      puts = c.put_newest.ensures.exact;
      keeps = subst (λ newest. KeepsNewest c.args.added.key newest
          c.self.inside.replaced.entries c.keep_newest.new.replaced.entries)
          c.newest_of-newest.ensures.exact c.keep_newest.ensures.exact;
    })
