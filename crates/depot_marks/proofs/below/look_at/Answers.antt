-- A run has a table that is there, and begins in time. One of raw partitions is found, and one of a
-- view's leads to what it reads.
use Rattle.std.proofs.Common.{◌≡◌, ◌+◌, ◌-◌, ◌<◌, arith, false, inl, inr, length, refl, subst, true}
use Rattle.std.specs.Prelude.{Option, slice_get}
use Rattle.std.proofs.lemmas.List.Elements.{All-weaker}
use Rattle.std.proofs.lemmas.Option.{slice_get_within}
use Rattle.std.proofs.lemmas.Result.{on_ok_weaker}
use Rattle.desc_types.specs.declared.view.Src.{Src}
use Rattle.desc_types.specs.Sources.{kind_sources, width_of}
use Rattle.desc_types.specs.Tables.{TableOf}
use Rattle.view_meaning.specs.Partitions.{is_part, key_of}
use Rattle.view_meaning.specs.Versions.{is_raw}
use Rattle.view_meaning.proofs.KeyLemmas.{is_part-table}
use Rattle.depot_marks.specs.declared.below.Search.{Search}
use Rattle.depot_marks.specs.declared.run.Run.{Run}
use Rattle.depot_marks.specs.Windows.{BeginsInTime}
use Rattle.depot_marks.proofs.BelowLemmas.{All-run_of, BeginsInTime-run}
use Rattle.depot_marks.proofs.SearchLemmas.{LooksAt-raw, LooksAt-view}
use Rattle.depot_marks.proofs.below.look_at.Goals as goal

pub table-table-requires : goal.table-table-requires
table-table-requires c =
    let run = c.args.run in
    let desc = c.args.served.now.desc in
    record {
      within = is_part-table desc (key_of run.table (run.first + 0))
          (All-run_of (λ key. is_part desc key ≡ true) run.table run.first (run.end - run.first) 0
          (omega (arith, c.if-run.false)) c.requires.parts);
    }

pub put_sources-requires-clause-declared : goal.put_sources-requires-clause-declared
put_sources-requires-clause-declared c =
    let run = c.args.run in
    let tables = c.args.served.now.desc.tables in
    let there : run.table < length tables =
    slice_get_within tables run.table c.table-table.result.now c.table-table.ensures.exact in
    All-weaker (λ (src : Src). src.table < run.table) (λ (src : Src). src.table < length tables)
    (λ src earlier. omega (arith, earlier, there)) (kind_sources c.table-table.result.now.kind)
    (c.args.served.now.is_served.earlier run.table c.table-table.result.now
    c.table-table.ensures.exact)

pub put_sources-requires-clause-in_time : goal.put_sources-requires-clause-in_time
put_sources-requires-clause-in_time c =
    let run = c.args.run in
    subst (λ (table : Option TableOf). BeginsInTime (width_of table)
    (record { first = run.first; count = run.end - run.first })) c.table-table.ensures.exact
    (BeginsInTime-run c.args.served.now.desc run.table run.first (run.end - run.first)
    (omega (arith, c.if-run.false)) c.requires.parts)

pub returns-in_ok-push-in-Raw : goal.returns-in_ok-push-in-Raw
returns-in_ok-push-in-Raw c =
    let run : Run = record {
      table = c.args.run.table;
      parts = record { first = c.args.run.first; count = c.args.run.end - c.args.run.first };
    } in
    let new : Search = record {
      found = c.push.new.self;
      waiting = c.args.search.now.waiting;
    } in
    let raw : is_raw (slice_get c.args.served.now.desc.tables run.table) ≡ true =
    rw (c.table-table.ensures.exact, ← c.table.view_is, c.in-Raw.is) refl in
    record {
      ok = LooksAt-raw c.args.served.now.desc run c.args.search.now new raw c.requires.parts
          c.in_ok-push-in-Raw.ensures.items refl;
    }

pub returns-in-Filter : goal.returns-in-Filter
returns-in-Filter c =
    let run = c.args.run in
    let view : is_raw (slice_get c.args.served.now.desc.tables run.table) ≡ false =
    rw (c.table-table.ensures.exact, ← c.table.view_is) (elim c.in-Filter.is [
      | inl filter ↦ rw filter.3 refl
      | inr other ↦ elim other [ inl group ↦ rw group.3 refl | inr join ↦ rw join.3 refl ]
    ]) in
    let new : Search = record {
      found = c.args.search.now.found;
      waiting = c.put_sources.new.waiting;
    } in
    record {
      ok = on_ok_weaker c.put_sources.result
          (λ waits. LooksAt-view c.args.served.now.desc run.table run.first (run.end - run.first)
          c.args.search.now new c.args.served.now.is_served.earlier view
          (omega (arith, c.if-run.false)) refl
          (λ test. rw c.table-table.ensures.exact (waits test)))
          c.put_sources.ensures.ok;
    }
