-- the items so far are those that the words so far say
use Rattle.std.proofs.Common.{◌≡◌, map, take}
use Rattle.depot_script.specs.Commands.{item_said}
use Rattle.depot_script.proofs.commands.request_said.Given as goal

abbrev pub invariant-loop-item : goal.invariant-loop-item
invariant-loop-item l =
    l.said.items ≡ map (item_said l.served.desc) (take l.item-index l.items)
