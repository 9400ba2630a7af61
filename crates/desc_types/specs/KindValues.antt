-- What contracts see of a table's kind: lists in place of vectors.
use Rattle.std.specs.Prelude.{ℕ, List}
use Rattle.desc_types.specs.declared.view.Src.{Src}
use Rattle.desc_types.specs.declared.view.Cond.{Cond}
use Rattle.desc_types.specs.declared.view.Agg.{Agg}
use Rattle.desc_types.specs.declared.view.Pair.{Pair}

-- a feed and the time column; a source, conditions and kept columns; a source, keys and
-- aggregates; two sources and the pairs of columns that have to agree
pub data KindOf : Type 0 where
  Raw : ℕ → ℕ → KindOf
  Filter : Src → List Cond → List ℕ → KindOf
  Group : Src → List ℕ → List Agg → KindOf
  Join : Src → Src → List Pair → KindOf
