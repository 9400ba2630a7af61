-- The first place with an entry is still to come.
use Rattle.std.proofs.Common.{◌≡◌}
use Rattle.std.specs.List.{find}
use Rattle.query_pin.proofs.FirstLemmas.{is_told}
use Rattle.query_pin.proofs.ReplacedLemmas.{places_from}
use Rattle.query_pin.proofs.replaced.first_replaced.Given as goal

abbrev pub invariant-loop-read : goal.invariant-loop-read
invariant-loop-read l =
    find is_told l.read-iterator ≡ find is_told (places_from l.fn.from l.replaced.entries)
