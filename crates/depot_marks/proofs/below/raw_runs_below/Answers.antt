-- The search starts at the partition, and ends after the first table.
use Rattle.std.proofs.Common.{◌∙◌, ℕ, arith, refl, subst}
use Rattle.desc_types.specs.Sources.{table_width}
use Rattle.depot_marks.specs.Below.{IsSearchOf}
use Rattle.depot_marks.proofs.BelowLemmas.{met-within}
use Rattle.depot_marks.proofs.SearchLemmas.{IsSearchOf-end, IsSearchOf-start}
use Rattle.depot_marks.proofs.below.raw_runs_below.Goals as goal

pub put_run-requires : goal.put_run-requires
put_run-requires c = record {
  within = omega (
    arith,
    met-within (table_width c.args.served.now.desc c.args.key.table) c.args.key.part
        c.requires.part,
  );
}

pub loop-search-init : goal.loop-search-init
loop-search-init c =
    IsSearchOf-start c.args.served.now.desc c.args.key _ c.requires.part c.new.ensures.items
    (λ test. c.in_ok-put_run.ensures.ok test ∙ rw c.new-2.ensures.empty refl)

pub returns-then-table-eq0-clause-exact : goal.returns-then-table-eq0-clause-exact
returns-then-table-eq0-clause-exact c =
    IsSearchOf-end c.args.served.now.desc c.args.key c.pass_table.new.search
    (subst (λ (table : ℕ). IsSearchOf c.args.served.now.desc c.args.key table
    c.pass_table.new.search) c.if-table-eq0.true
    (c.in_ok-pass_table.ensures.ok c.args.key c.loop-search.invariant))

pub returns-then-table-eq0-clause-raw : goal.returns-then-table-eq0-clause-raw
returns-then-table-eq0-clause-raw c =
    (c.in_ok-pass_table.ensures.ok c.args.key c.loop-search.invariant).raw

pub loop-search-preserved : goal.loop-search-preserved
loop-search-preserved c =
    subst (λ (table : ℕ). IsSearchOf c.args.served.now.desc c.args.key table
    c.pass_table.new.search) (omega arith)
    (c.in_ok-pass_table.ensures.ok c.args.key c.loop-search.invariant)
