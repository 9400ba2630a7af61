-- One byte more is pushed, for the next place.
use Rattle.std.proofs.Common.{arith}
use Rattle.depot_disk.specs.Picks.{is_touched}
use Rattle.depot_disk.specs.Record.{life_of}
use Rattle.depot_disk.specs.MemDisk.{steps_of}
use Rattle.depot_disk.proofs.PickLemmas.{scrambled-take}
use Rattle.depot_disk.proofs.pick.scramble.Goals as goal

pub loop-place-preserved : goal.loop-place-preserved
loop-place-preserved c =
    scrambled-take (is_touched (life_of c.args.file (steps_of c.args.steps.now))) c.args.pick
    c.loop-place.place c.byte_at.result c.args.bytes.now c.loop-place.new.items c.push.new.self.items
    (omega arith) c.loop-place.invariant c.in_ok-push.ensures.items c.byte_at.ensures.exact
