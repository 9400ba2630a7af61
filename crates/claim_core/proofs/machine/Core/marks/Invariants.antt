-- The marks of the items so far stand there.
use Rattle.std.proofs.Common.{◌≡◌, take}
use Rattle.std.specs.Prelude.{flat_map}
use Rattle.view_meaning.specs.Shown.{marks_shown}
use Rattle.claim_core.proofs.machine.Core.marks.Given as goal

abbrev pub invariant-loop-item : goal.invariant-loop-item
invariant-loop-item l = l.marks.items
    ≡ flat_map (marks_shown l.self.desc l.self.state.journal) (take l.item-index l.request)
