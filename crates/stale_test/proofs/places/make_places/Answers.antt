-- One key more has a place.
use Rattle.stale_test.proofs.PlaceLemmas.{HasPlace-take, KeepsValues-step}
use Rattle.stale_test.proofs.places.make_places.Goals as goal

pub loop-key-preserved : goal.loop-key-preserved
loop-key-preserved g c = record {
  places = HasPlace-take c.args.empty c.loop-key.map.entries c.make_place.new.map.entries
      c.args.keys.now c.loop-key.key-index (record { table = 0; part = 0 }) c.loop-key-test.true
      c.make_place.ensures.kept c.loop-key.invariant.places c.in_ok-make_place.ensures.ok;
  kept = KeepsValues-step c.args.empty c.args.map.now.entries c.loop-key.map.entries
      c.make_place.new.map.entries c.loop-key.invariant.kept c.make_place.ensures.kept;
}
