-- The list, and the versions to come, are all versions.
use Rattle.std.proofs.Common.{◌≡◌, ◌++◌}
use Rattle.std.specs.Prelude.{map}
use Rattle.query_pin.specs.Held.{dead_of}
use Rattle.query_pin.proofs.listing.list_in_order.Given as goal

abbrev pub invariant-loop-read : goal.invariant-loop-read
invariant-loop-read l = l.list.items ++ map dead_of l.read-iterator ≡ map dead_of l.held.entries
