-- Time: its end, and what a width is.
use Rattle.std.specs.Prelude.{ℕ, ◌≤◌}

-- the tick after the last one
abbrev pub END : ℕ
END = 1099511627776

-- from 1 tick to all of them
pub record IsWidth (ticks : ℕ) : Type 0 where
  pub some : 1 ≤ ticks
  pub in_time : ticks ≤ END
