-- One more is woken.
use Rattle.std.proofs.Common.{get_or}
use Rattle.stale_test.specs.declared.standing.Standing.TheVariants.{Place}
use Rattle.stale_test.specs.Standings.{worse}
use Rattle.stale_test.proofs.PlaceLemmas.{ChangesEach-take}
use Rattle.stale_test.proofs.StandingLemmas.{worse-twice}
use Rattle.stale_test.proofs.standing.wake.Goals as goal

pub put-requires : goal.put-requires
put-requires c = record {
  place = c.loop-key.invariant.places
      (get_or c.args.keys.now c.loop-key.key-index (record { table = 0; part = 0 }))
      (c.requires.places c.loop-key.key-index (record { table = 0; part = 0 })
      c.loop-key-test.true);
}

pub loop-key-preserved : goal.loop-key-preserved
loop-key-preserved c =
    ChangesEach-take (worse c.args.standing) Place c.args.unsettled.now.entries
    c.loop-key.unsettled.entries c.put.new.map.entries c.args.keys.now c.loop-key.key-index
    (record { table = 0; part = 0 }) c.loop-key-test.true (worse-twice c.args.standing)
    c.loop-key.invariant
    (rw (c.worse.ensures.exact, c.value_of-old.ensures.exact) at c.put.ensures.exact)
