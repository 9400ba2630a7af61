-- A call is counted, and it fails exactly if it is listed.
use Rattle.std.proofs.Common.{rules}
use Rattle.depot_disk.proofs.fail_disk.FailList.admit.Goals as goal

pub returns-then-contains-clause-exact : goal.returns-then-contains-clause-exact
returns-then-contains-clause-exact c = record { failed = search rules; counted = search rules }

pub returns-clause-exact : goal.returns-clause-exact
returns-clause-exact c = record { failed = search rules; counted = search rules }
