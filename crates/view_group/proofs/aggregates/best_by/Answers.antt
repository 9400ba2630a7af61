-- One row more has the best cell, or leaves the best so far.
use Rattle.std.proofs.Common.{◌∙◌, ◌++◌, ◌∷◌, [], List, ap, map, sym, take}
use Rattle.std.proofs.lemmas.List.{map-append, take_more}
use Rattle.depot_cell.specs.declared.cell.Cell.{Cell}
use Rattle.view_meaning.specs.Operations.{best_by, column_of}
use Rattle.view_meaning.proofs.OperationLemmas.{best_by-push}
use Rattle.view_group.proofs.aggregates.best_by.Goals as goal

pub loop-member-preserved : goal.loop-member-preserved
loop-member-preserved c =
    let before = map (λ member. member.now) (take c.loop-member.member-index c.args.members.now) in
    let more = ap (map (λ member. member.now))
    (take_more c.args.members.now c.loop-member.member-index c.member-item.result
    c.loop-member-test.true ∙ ap (λ last. take c.loop-member.member-index c.args.members.now
    ++ last ∷ []) (sym c.member-item.is))
    ∙ map-append (λ member. member.now) (take c.loop-member.member-index c.args.members.now)
    (c.member-item.result ∷ []) in
    (rw (c.loop-member.invariant, c.cell_at.ensures.exact) at c.better-best.ensures.exact)
    ∙ sym (best_by-push c.args.op c.args.column before c.member-item.result.now)
    ∙ ap (λ (rows : List (List Cell)). best_by c.args.op (column_of c.args.column rows)) (sym more)
