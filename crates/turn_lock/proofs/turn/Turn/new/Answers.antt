use Rattle.std.proofs.Common.{rules, ◌≡◌, ◌*◌, ◌∷◌, [], Some, ap, subst, sym}
use Rattle.atomic_table.specs.Table.{opening}
use Rattle.turn_lock.specs.Rule.{IsKept}
use Rattle.turn_lock.specs.Steps.{first_view}
use Rattle.turn_lock.proofs.TurnSteps.{starts}
use Rattle.turn_lock.proofs.turn.Turn.new.Goals as goal

pub new-requires : goal.new-requires
new-requires g c =
    let m = g.V.Grows.meaning in
    let word = 2 * c.length-length.result in
    let items : c.push_reserved.new.self.items ≡ Some c.args.value ∷ [] = search rules in
    let kept = starts m c.args.value word (ap (λ size. 2 * size) c.length-length.ensures.exact)
    c.requires.fresh in
    subst (λ slots. IsKept m (opening (word ∷ []) slots (first_view m c.of-key.result.value)))
    (sym items)
    (subst (λ value. IsKept m (opening (word ∷ []) (Some c.args.value ∷ []) (first_view m value)))
    (sym c.of-key.ensures) kept)
