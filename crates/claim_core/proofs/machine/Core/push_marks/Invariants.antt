-- The marks of the partitions so far stand there.
use Rattle.std.proofs.Common.{◌≡◌, ◌++◌}
use Rattle.view_meaning.specs.Marks.{mark_of}
use Rattle.claim_core.proofs.MarkingLemmas.{told_each}
use Rattle.claim_core.proofs.machine.Core.push_marks.Given as goal

abbrev pub invariant-loop-part : goal.invariant-loop-part
invariant-loop-part l = l.marks.items ≡ l.fn.marks.items
    ++ told_each (λ key. record { key = key; mark = mark_of l.self.desc l.self.state.journal key })
    (λ part. record { table = l.item.table; part = part }) l.initial.part l.part
