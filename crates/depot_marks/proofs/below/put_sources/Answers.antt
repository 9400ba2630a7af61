-- A raw table names no sources, and of a join both are read.
use Rattle.std.proofs.Common.{◌≡◌, ◌∷◌, [], refl}
use Rattle.std.proofs.lemmas.Result.{on_ok_weaker}
use Rattle.desc_types.specs.Sources.{kind_sources}
use Rattle.depot_marks.proofs.BelowLemmas.{list_any-both, list_any-none_read}
use Rattle.depot_marks.proofs.below.put_sources.Goals as goal

pub returns-in-Raw : goal.returns-in-Raw
returns-in-Raw c =
    let none : kind_sources c.args.table.now.kind ≡ [] =
    rw (← c.table.view_is, c.in-Raw.is) refl in
    record {
      ok = λ test. rw none (list_any-none_read c.args.served.now.desc c.args.table.now.width
          c.args.parts test _);
    }

pub returns-in_ok-put_source-in-Join : goal.returns-in_ok-put_source-in-Join
returns-in_ok-put_source-in-Join c =
    let both : kind_sources c.args.table.now.kind ≡ c.in-Join.left ∷ c.in-Join.right ∷ [] =
    rw (← c.table.view_is, c.in-Join.is) refl in
    record {
      ok = on_ok_weaker c.put_source-in-Join-2.result
          (λ other test. rw (both, ← c.table.view_is)
          (list_any-both c.args.served.now.desc c.table.inside.width c.args.parts c.in-Join.left
          c.in-Join.right test _ _ _ (c.in_ok-put_source-in-Join.ensures.ok test) (other test)))
          c.put_source-in-Join-2.ensures.ok;
    }
