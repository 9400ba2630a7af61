-- A run of rows is sorted: one row that lies in no partition, or those of one partition.
use Rattle.std.proofs.Common.{◌≡◌, ◌∙◌, ◌+◌, ◌-◌, List, ap, arith, drop, length, length-drop}
use Rattle.std.proofs.Common.{map, sym, take, take_all}
use Rattle.std.specs.Prelude.{true}
use Rattle.std.proofs.lemmas.List.Elements.{All-same}
use Rattle.desc_types.specs.declared.delivery.DRow.{DRow}
use Rattle.desc_types.specs.Deliveries.{DeliveryOf}
use Rattle.view_meaning.specs.TableRows.{lies_in_table}
use Rattle.raw_load.specs.Feeds.{feed_of}
use Rattle.raw_load.specs.Stretches.{LiesNowhere}
use Rattle.raw_load.specs.Sorting.{is_closed_part}
use Rattle.raw_load.proofs.SortLemmas.{SortsRows-none, SortsRows-put}
use Rattle.raw_load.proofs.StretchLemmas.{All-run_of, IsRun, run_of-only}
use Rattle.raw_load.proofs.sorting.sort_run.Goals as goal

pub returns-in_default : goal.returns-in_default
returns-in_default c =
    let desc = c.args.desc.now in
    let rows = c.args.delivery.now.rows in
    record {
      ok = record {
        some = omega arith;
        within = omega (arith, c.requires.within);
        kept = SortsRows-none desc (map feed_of c.args.feeds.now) c.args.delivery.now c.args.first 1
            c.args.sorted.now
            (All-run_of (LiesNowhere desc) rows c.args.first c.index.result.now c.requires.within
            (rw (ap (λ (delivery : DeliveryOf). delivery.rows) c.delivery.view_is)
            at c.index.ensures)
            c.in_default.ensures.exact);
      };
    }

pub returns : goal.returns
returns c =
    let desc = c.args.desc.now in
    let rows = c.args.delivery.now.rows in
    let rows_is = ap (λ (delivery : DeliveryOf). delivery.rows) c.delivery.view_is in
    let next = c.args.first + 1 in
    let more = c.run_len-count.result in
    let rest : take (length rows - next) (drop next rows) ≡ drop next rows =
    take_all (length rows - next) (drop next rows) (omega (arith, length-drop next rows)) in
    let run : IsRun desc rows c.args.first (1 + more) c.in-Some.key = record {
      some = omega arith;
      within = omega (
        arith,
        rw (c.deref.ensures.value ∙ rows_is) at c.run_len-count.ensures.within,
        ap (λ (all : List DRow). length all) rest,
        length-drop next rows,
      );
      only = run_of-only desc rows c.args.first more c.index.result.now c.in-Some.key
          c.table_of-table.result.now c.requires.within (rw rows_is at c.index.ensures)
          c.table_of-table.ensures.exact c.in-Some.ensures.exact
          (All-same (λ row. lies_in_table c.table_of-table.result.now c.in-Some.key row ≡ true)
          (take more (drop next rows)) (take more (take (length rows - next) (drop next rows)))
          (ap (λ (all : List DRow). take more all) (sym rest))
          (rw (c.deref.ensures.value ∙ rows_is) at c.run_len-count.ensures.each));
    } in
    record {
      ok = record {
        some = run.some;
        within = run.within;
        kept = SortsRows-put desc (map feed_of c.args.feeds.now) c.args.delivery.now c.args.first
            (1 + more) c.in-Some.key c.is_closed_part-closed.result c.args.sorted.now
            c.put_stretch.new.sorted run
            (ap (is_closed_part (map feed_of c.args.feeds.now) c.in-Some.key.part)
            c.table_of-table.ensures.exact ∙ sym c.is_closed_part-closed.ensures.exact)
            c.in_ok-put_stretch.ensures.ok;
      };
    }
