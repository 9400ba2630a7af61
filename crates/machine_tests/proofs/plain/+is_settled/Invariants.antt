-- A source stands one table further down.
use Rattle.machine_tests.proofs.plain.+is_settled.Given as goal

abbrev pub decreases-is_settled : goal.decreases-is_settled
decreases-is_settled l = l.depth
