-- The versions of the items so far stand there.
use Rattle.std.proofs.Common.{◌≡◌, map, take}
use Rattle.claim_core.specs.Cores.{version_shown}
use Rattle.claim_core.proofs.reads.versions_shown.Given as goal

abbrev pub invariant-loop-item : goal.invariant-loop-item
invariant-loop-item l = l.versions.items ≡ map version_shown (take l.item-index l.items)
