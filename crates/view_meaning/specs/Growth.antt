-- Lists that grow at their end.
use Rattle.std.specs.Prelude.{List, ◌≡◌, length, take}

-- a list has all that another had, in front
abbrev pub BeginsWith : {X : Type 0} → (old new : List X) → Type 0
BeginsWith old new = take (length old) new ≡ old
