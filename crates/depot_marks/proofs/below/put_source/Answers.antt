-- The run of the source is what the run of the view's partitions reads of it.
use Rattle.std.proofs.Common.{◌≡◌, ◌∙◌, ap, refl}
use Rattle.std.specs.Prelude.{Bool, ◌||◌}
use Rattle.std.specs.List.{list_any}
use Rattle.std.proofs.lemmas.Result.{on_ok_weaker}
use Rattle.desc_types.specs.Sources.{table_width, width_of}
use Rattle.depot_marks.specs.Below.{keys_waiting}
use Rattle.depot_marks.proofs.BelowLemmas.{list_any-run_read}
use Rattle.depot_marks.proofs.below.put_source.Goals as goal

pub returns-then-src : goal.returns-then-src
returns-then-src c =
    let desc = c.args.served.now.desc in
    let src = c.args.src in
    let run = c.sources_of_run-sources.result in
    let width : table_width desc src.table ≡ c.behind-served.inside.width =
    ap width_of c.table.ensures.exact ∙ rw (← c.behind-served.view_is) refl in
    record {
      ok = on_ok_weaker c.put_run.result
          (λ waits test. waits test
          ∙ ap (λ (found : Bool). list_any test (keys_waiting c.args.waiting.now.keys) || found)
          (list_any-run_read desc c.args.width src c.args.parts run.first run.count test
          (λ source. rw width (c.sources_of_run-sources.ensures.exact source))))
          c.put_run.ensures.ok;
    }
