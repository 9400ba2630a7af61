-- One partition more is read.
use Rattle.std.proofs.Common.{◌∙◌, ◌∷◌, [], List, ap, refl, ◌+◌}
use Rattle.std.specs.Prelude.{◌||◌, flat_map}
use Rattle.std.specs.List.{list_any}
use Rattle.desc_types.specs.declared.table.Key.{Key}
use Rattle.view_meaning.specs.Partitions.{keys_read}
use Rattle.depot_marks.specs.Below.{keys_waiting}
use Rattle.depot_marks.proofs.BelowLemmas.{keys_read-run, list_any-read_more}
use Rattle.depot_marks.proofs.below.put_each.Goals as goal

pub loop-index-preserved : goal.loop-index-preserved
loop-index-preserved c = λ test.
    let desc = c.args.served.now.desc in
    let part = c.args.parts.first + c.loop-index.index in
    list_any-read_more test _ _ _
    (λ part. flat_map (keys_read desc c.args.width part) (c.args.src ∷ [])) c.args.parts.first
    c.loop-index.index part refl (c.loop-index.invariant test)
    (c.in_ok-put_run.ensures.ok test
    ∙ ap (λ (keys : List Key). list_any test (keys_waiting c.loop-index.waiting.keys)
    || list_any test keys)
    (keys_read-run desc c.args.width part c.args.src c.source_parts.result.first
    c.source_parts.result.count c.source_parts.ensures.exact))
