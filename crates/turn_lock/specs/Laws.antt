-- The law of a pass's own entries.
use Rattle.std.specs.Prelude.{◌≡◌, ◌++◌}
use Rattle.turn_lock.specs.declared.known.Known.{Known}
use Rattle.turn_lock.specs.Turns.{Meaning, TakesTurn}
use Rattle.turn_lock.specs.Passes.{Tells, after_turn}

-- after a turn a pass has the entries that it had and those that it added, and no others
abbrev pub HasOwnEntries : {V S E P : Type 0} → Meaning V S E P → Type 0
HasOwnEntries {V} {S} {E} {P} m = (known : Known S E P) (before after : V) → Tells m known before
    → (turn : TakesTurn m known.number before after)
    → (after_turn m known after).own.entries ≡ known.own.entries ++ turn.added
