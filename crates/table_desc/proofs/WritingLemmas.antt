-- The aggregates of a group, spelled one by one.
use Rattle.std.proofs.Common.{◌≡◌, ◌∙◌, ◌++◌, ◌∷◌, [], List, ap, arith, append-nil, append_assoc}
use Rattle.std.proofs.Common.{length, sym}
use mathlib.Core.Logic.{◌⊎◌, inl, inr}
use Rattle.desc_lines.specs.Written.{WrittenAggOf}
use Rattle.desc_types.specs.declared.table.Column.{Column}
use Rattle.desc_types.specs.declared.view.Agg.{Agg}
use Rattle.table_desc.specs.Canonical.{aggs_spelled, over_spelled}

-- the next aggregate is spelled behind those so far
pub aggs_spelled-step : (columns : List Column) (made whole : List WrittenAggOf)
    {owns owns_left : List Column} {aggs aggs_left : List Agg} {own : Column} {agg : Agg}
    {new : List WrittenAggOf} {next : WrittenAggOf}
    → owns ≡ own ∷ owns_left → aggs ≡ agg ∷ aggs_left
    → next ≡ record {
      fun = agg.fun;
      column = over_spelled columns agg.fun agg.column;
      name = own.name;
    }
    → new ≡ made ++ next ∷ []
    → made ++ aggs_spelled columns owns aggs ≡ whole
    → new ++ aggs_spelled columns owns_left aggs_left ≡ whole
aggs_spelled-step columns made whole {owns_left = owns} {aggs_left = aggs} own_is agg_is next_is
    new_is before =
    rw (new_is, next_is, append_assoc made (_ ∷ []) (aggs_spelled columns owns aggs))
    (rw (own_is, agg_is) at before)

-- where no own column or no aggregate is left, all are spelled
pub aggs_spelled-none : (columns owns : List Column) (aggs : List Agg)
    (made whole : List WrittenAggOf)
    → (owns ≡ []) ⊎ (aggs ≡ [])
    → made ++ aggs_spelled columns owns aggs ≡ whole → made ≡ whole
aggs_spelled-none columns [] aggs made whole none before = sym (append-nil made) ∙ before
aggs_spelled-none columns (own ∷ owns) [] made whole none before =
    sym (append-nil made) ∙ before
aggs_spelled-none columns (own ∷ owns) (agg ∷ aggs) made whole (inl none) before =
    absurd (omega (arith, ap length none))
aggs_spelled-none columns (own ∷ owns) (agg ∷ aggs) made whole (inr none) before =
    absurd (omega (arith, ap length none))
