-- The keys so far are partitions.
use Rattle.std.proofs.Common.{◌≡◌, take}
use Rattle.std.specs.Prelude.{All, true}
use Rattle.view_meaning.specs.Partitions.{is_part}
use Rattle.machine_tests.proofs.served.are_parts.Given as goal

abbrev pub invariant-loop-key : goal.invariant-loop-key
invariant-loop-key l = All (λ key. is_part l.desc key ≡ true) (take l.key-index l.keys)
