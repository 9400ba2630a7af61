use Rattle.std.proofs.Common.{◌∙◌, ℕ, ◌-◌, List, [], ◌∷◌, ◌++◌, ap, sym, arith}
use Rattle.std.specs.List.{range_with_len}
use Rattle.std.proofs.lemmas.List.{append_assoc}
use Rattle.stale_test.proofs.ListLemmas.{range_with_len-push}
use Rattle.stale_test.proofs.reached.push_run.Goals as goal

pub loop-part-preserved : goal.loop-part-preserved
loop-part-preserved c =
    let old = c.args.parts.now.items in
    let first = c.args.run.first in
    let last = c.loop-part.part in
    c.in_ok-push.ensures.items
    ∙ ap (λ (items : List ℕ). items ++ last ∷ []) c.loop-part.invariant
    ∙ append_assoc old (range_with_len first (last - first)) (last ∷ [])
    ∙ ap (λ (run : List ℕ). old ++ run) (sym (range_with_len-push first last (omega arith)))
