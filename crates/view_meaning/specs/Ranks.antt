-- The order of marks.
use Rattle.std.specs.Prelude.{ℕ}
use Rattle.view_meaning.specs.declared.request.Mark.{Mark}
use Rattle.view_meaning.specs.declared.request.Mark.TheVariants.{Open, Closed, Complete}

-- how far a mark goes: from open over closed to complete
abbrev pub rank_of : Mark → ℕ
rank_of Open = 0
rank_of Closed = 1
rank_of Complete = 2
