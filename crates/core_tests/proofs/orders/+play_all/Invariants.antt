-- An order with a move more has fewer turns left.
use Rattle.std.proofs.Common.{◌-◌}
use Rattle.core_tests.proofs.orders.+play_all.Given as goal

abbrev pub decreases-play_all : goal.decreases-play_all
decreases-play_all l = 10 - l.order.made
