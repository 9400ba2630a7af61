use Rattle.std.proofs.Common.{◌+◌, ◌*◌}
use Rattle.turn_tests.proofs.threads.+branches.Given as goal

abbrev pub decreases-add_in_threads : goal.decreases-add_in_threads
decreases-add_in_threads g l = 2 * l.others

abbrev pub decreases-join+arg2 : goal.decreases-join+arg2
decreases-join+arg2 g l = 2 * l.beside + 1

abbrev pub decreases-join+arg3 : goal.decreases-join+arg3
decreases-join+arg3 g l = 2 * l.below + 1
