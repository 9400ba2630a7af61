-- What is closed is closed by those before, or by this one.
use Rattle.std.proofs.Common.{◌≡◌, arith, false, true}
use Rattle.std.specs.Prelude.{is_some}
use Rattle.depot_marks.specs.Closings.{greatest_at}
use Rattle.depot_marks.proofs.ClosingLemmas.{Rises-push, greatest_at-push}
use Rattle.depot_marks.proofs.ClosingLemmas.{greatest_at-same}
use Rattle.depot_marks.proofs.closings.Closings.note.Goals as goal

pub returns-then-is_some-clause-closed : goal.returns-then-is_some-clause-closed
returns-then-is_some-clause-closed c = λ end.
    let closed : is_some (greatest_at c.self.inside.items.items c.args.closes) ≡ true = cc in
    rw (← c.self.view_is)
    (greatest_at-same end c.args.closes c.max-self-inside.result c.self.inside.items.items closed)

pub invariant_of-self-2 : goal.invariant_of-self-2
invariant_of-self-2 c =
    let open_yet : is_some (greatest_at c.self.inside.items.items c.args.closes) ≡ false = cc in
    rw c.in-Ok.ensures.items
    (Rises-push c.self.inside.items.items c.self.inside.greatest _ c.self.invariant (omega arith)
    open_yet)

pub returns-clause-closed : goal.returns-clause-closed
returns-clause-closed c = λ end.
    rw (← c.self.view_is, c.in-Ok.ensures.items)
    (greatest_at-push end c.self.inside.items.items _)
