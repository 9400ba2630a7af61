-- What is told for the items so far stands there.
use Rattle.std.proofs.Common.{◌≡◌, take}
use Rattle.claim_core.proofs.PinningLemmas.{told_of}
use Rattle.claim_core.proofs.machine.Core.items_of.Given as goal

abbrev pub invariant-loop-item : goal.invariant-loop-item
invariant-loop-item l = l.items.items
    ≡ told_of l.self.desc l.self.state.journal (take l.item-index l.request)
