-- A reader of lines, as its callers see it, and what each reading call keeps.
use Rattle.std.specs.Prelude.{◌≡◌, ℕ, ◌-◌, ◌≤◌, List}
use Rattle.std.specs.declared.option.Option.{Option}
use Rattle.std.specs.Borrow.{GName}
use Rattle.depot_io.specs.Lines.{LIMIT, Takes}

-- its source, the last line that it took, and how many bytes it has taken in all
pub record Reading (S : Type 0) : Type 0 where
  pub source : S
  pub line : List ℕ
  pub taken : ℕ

-- a reader goes on, whatever it answers: it took off its source what it counts, and counts no
-- further than the limit; a lent source stays the same one
pub record ReadsOn {S : Type 0} (bytes_left : S → Option (List ℕ)) (loan : S → Option GName)
    (old new : Reading S) : Type 0 where
  pub later : old.taken ≤ new.taken
  pub within : new.taken ≤ LIMIT
  pub left : Takes (bytes_left old.source) (bytes_left new.source) (new.taken - old.taken)
  pub same_loan : loan new.source ≡ loan old.source
