-- The feed of the run's table tells its mark.
use Rattle.std.proofs.Common.{◌≡◌, ◌∙◌, Some, ap, arith, rules, sym}
use Rattle.std.specs.Prelude.{slice_get, true}
use Rattle.desc_types.specs.Kinds.{kind_of}
use Rattle.desc_types.specs.Tables.{TableOf}
use Rattle.view_meaning.specs.Versions.{is_raw}
use Rattle.depot_marks.specs.MarkBooks.{MarkBookOf}
use Rattle.depot_marks.proofs.BookLemmas.{is_raw-run, is_raw-within, least-told}
use Rattle.depot_marks.proofs.BookLemmas.{run_of-raw}
use Rattle.depot_marks.proofs.book.MarkBook.run_mark.Goals as goal

pub table-table-requires : goal.table-table-requires
table-table-requires c = record {
  within = is_raw-within c.args.served.now.desc.tables c.args.run.table
      (is_raw-run c.args.served.now.desc c.args.run.table c.args.run.parts.first
      c.args.run.parts.count c.requires.raw (omega arith));
}

pub unreachable-requires : goal.unreachable-requires
unreachable-requires c =
    let raw : is_raw (slice_get c.args.served.now.desc.tables c.args.run.table) ≡ true =
    is_raw-run c.args.served.now.desc c.args.run.table c.args.run.parts.first
    c.args.run.parts.count c.requires.raw (omega arith) in
    search rules

pub run_mark_in-requires : goal.run_mark_in-requires
run_mark_in-requires c = record {
  some = omega arith;
  parts = run_of-raw c.args.served.now.desc c.args.run.table c.args.run.parts.first
      c.args.run.parts.count (record {
        name = c.table.inside.name;
        columns = c.table.inside.columns.items;
        width = c.table.inside.width;
        kind = kind_of c.table.inside.kind;
      }) (c.table-table.ensures.exact ∙ ap Some (sym c.table.view_is)) c.requires.raw;
}

pub returns : goal.returns
returns c = record {
  exact = λ accepted tells.
      let table : TableOf = record {
        name = c.table.inside.name;
        columns = c.table.inside.columns.items;
        width = c.table.inside.width;
        kind = kind_of c.table.inside.kind;
      } in
      let book : MarkBookOf = record { feeds = c.self.inside.feeds.items } in
      least-told c.args.served.now.desc accepted c.args.run.table c.args.run.parts.first
      c.args.run.parts.count c.in-Raw.feed c.in-Raw.time table book _
      c.args.served.now.is_accepted
      (c.table-table.ensures.exact ∙ ap Some (sym c.table.view_is)) (ap kind_of c.in-Raw.is)
      (rw (← c.self.view_is) at tells)
      (rw (c.deref.ensures.value, c.from.ensures) at c.run_mark_in.ensures.told);
}
