use Rattle.std.proofs.Common.{◌∙◌, sym}
use Rattle.std.proofs.lemmas.Result.{on_ok_weaker}
use Rattle.row_index.proofs.IndexLemmas.{set_value_at-with_row}
use Rattle.row_index.proofs.index.add_row.Goals as goal

pub returns-in-Some : goal.returns-in-Some
returns-in-Some c = record {
  ok = on_ok_weaker c.push.result (λ pushed.
      set_value_at-with_row c.args.columns.now c.args.index.now.entries c.fill.new.self
      c.args.row.now c.in-Some.place c.index_mut.result.now c.push.new.self
      c.in_ok-fill.ensures.ok (sym c.in-Some.ensures.index)
      (sym c.in-Some.ensures.value ∙ c.index_mut.ensures.value) pushed)
      c.push.ensures.ok;
}
