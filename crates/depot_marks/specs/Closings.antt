-- How far the deliveries of a feed closed.
use Rattle.std.specs.Prelude.{ℕ, List, [], ◌∷◌, ◌≤◌, All, Option, Some, None, nat_le}
use Rattle.std.specs.Prelude.{if◌then◌else◌}
use Rattle.std.specs.List.Sorted.{IsNonDecreasingBy}
use Rattle.depot_marks.specs.declared.closings.Closing.{Closing}

-- the deliveries of a feed that closed further than all before them, the greatest number that the
-- feed has accepted, and for how many deliveries more there is room
pub record ClosingsOf : Type 0 where
  pub items : List Closing
  pub greatest : ℕ
  pub room : ℕ

-- the tick up to which a delivery closed
abbrev pub closes_of : Closing → ℕ
closes_of closing = closing.closes

-- the greatest number that the feed had accepted by then
abbrev pub greatest_of : Closing → ℕ
greatest_of closing = closing.greatest

-- the greatest number beside the first of these that closed up to a tick
abbrev pub greatest_at : List Closing → (end : ℕ) → Option ℕ
greatest_at [] end = None
greatest_at (closing ∷ later) end =
    if nat_le end closing.closes then Some closing.greatest else greatest_at later end

-- each of these closed no less far than those before it, and the greatest number had not fallen by
-- then, nor has it since
pub record Rises (closings : List Closing) (greatest : ℕ) : Type 0 where
  pub closes : IsNonDecreasingBy closes_of closings
  pub numbers : IsNonDecreasingBy greatest_of closings
  pub within : All (λ (closing : Closing). closing.greatest ≤ greatest) closings
