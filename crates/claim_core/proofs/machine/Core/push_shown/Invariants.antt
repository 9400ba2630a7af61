-- Those of the partitions so far that have the level are told.
use Rattle.std.proofs.Common.{◌≡◌, ◌++◌}
use Rattle.view_meaning.specs.Shown.{has_level}
use Rattle.claim_core.specs.Cores.{shown_item}
use Rattle.claim_core.proofs.PinningLemmas.{told_to}
use Rattle.claim_core.proofs.machine.Core.push_shown.Given as goal

abbrev pub invariant-loop-part : goal.invariant-loop-part
invariant-loop-part l = l.items.items ≡ l.fn.items.items
    ++ told_to (has_level l.self.desc l.self.state.journal l.item.level)
    (shown_item l.self.desc l.self.state.journal)
    (λ part. record { table = l.item.table; part = part }) l.initial.part l.part
