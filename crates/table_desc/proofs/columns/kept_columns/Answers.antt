use Rattle.std.proofs.Common.{refl, sym}
use Rattle.std.proofs.lemmas.Option.{slice_get_past, slice_get_read}
use Rattle.table_desc.proofs.KeptLemmas.{kept_columns-push, kept_columns-same}
use Rattle.table_desc.proofs.columns.kept_columns.Goals.{in-Some+in_ok-copy_column+in_ok-push}
use Rattle.table_desc.proofs.columns.kept_columns.Goals.{in_default}
use Rattle.table_desc.proofs.columns.kept_columns.Goals as goal

pub loop-number-preserved : goal.loop-number-preserved
loop-number-preserved c = elim c.match-get.branch [
  | in-Some+in_ok-copy_column+in_ok-push w ↦
      let found = slice_get_read c.args.columns.now _ c.from.result w.in-Some.column.now refl
      w.in-Some.ensures.lookup.3.0 w.in-Some.ensures.lookup.1 in
      rw (
        w.kept-is,
        w.in_ok-push.ensures.items,
        w.in_ok-copy_column.ensures.exact,
        c.loop-number.invariant,
      )
      (sym (kept_columns-push c.args.columns.now c.args.numbers.now c.loop-number.number-index _ _
      c.loop-number-test.true c.from.ensures found))
  | in_default w ↦
      let none = slice_get_past c.args.columns.now c.from.result w.in_default.ensures.lookup.3 in
      rw (w.kept-is, c.loop-number.invariant)
      (sym (kept_columns-same c.args.columns.now c.args.numbers.now c.loop-number.number-index _
      c.loop-number-test.true c.from.ensures none))
]
