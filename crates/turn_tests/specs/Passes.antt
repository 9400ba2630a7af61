-- What callers do to their passes, and what the log has at the end.
use Rattle.std.specs.Prelude.{ℕ, ◌≡◌, ◌≢◌, ◌+◌, ◌++◌, [], List, take}
use mathlib.Core.List.{IsPrefix}
use Rattle.turn_lock.specs.declared.known.Known.{Known}
use Rattle.turn_lock.specs.declared.known.Share.{Share}
use Rattle.turn_lock.specs.Turns.{entries_of}
use Rattle.turn_lock.specs.Passes.{IsIn, SamePass}

-- turns of the pass added the entries, so many of the turns failed, and no pass was split off or joined
pub record TakesTurns (added : List ℕ) (failed : ℕ) (before after : Known ℕ ℕ ℕ) : Type 0 where
  pub same : SamePass before after
  pub entries : after.own.entries ≡ before.own.entries ++ added
  pub part : after.own.part ≡ before.own.part + failed

-- turns of the pass added a beginning of the numbers
pub record AddsSome (numbers : List ℕ) (before after : Known ℕ ℕ ℕ) : Type 0 where
  pub count : ℕ
  pub turns : TakesTurns (take count numbers) 0 before after

-- the pass has no entry, and none was joined to it
pub record IsUnspent (known : Known ℕ ℕ ℕ) : Type 0 where
  pub entries : known.own.entries ≡ []
  pub joined : known.joined ≡ []

-- the pass is the first one, with which nothing was done
pub record IsFirst (known : Known ℕ ℕ ℕ) : Type 0 where
  pub number : known.number ≡ 0
  pub room : known.room ≡ 4294967294
  pub to_join : known.to_join ≡ 0
  pub unspent : IsUnspent known

-- the pass and all that were split off and joined have beginnings of the numbers
pub record EachAdded (numbers : List ℕ) (before after : Known ℕ ℕ ℕ) : Type 0 where
  pub number : after.number ≡ before.number
  pub parent : after.parent ≡ before.parent
  pub to_join : after.to_join ≡ before.to_join
  pub own : IsPrefix after.own.entries numbers
  pub joined : (other : ℕ × Share ℕ ℕ) → IsIn other after.joined → IsPrefix other.1.entries numbers

-- the log has under the numbers of two passes beginnings of two lists, and nothing more
pub record HasBoth (other : ℕ) (first second : List ℕ) (log : List (ℕ × ℕ)) : Type 0 where
  pub of_first : IsPrefix (entries_of 0 log) first
  pub of_other : IsPrefix (entries_of other log) second
  pub no_more : (number : ℕ) → number ≢ 0 → number ≢ other → entries_of number log ≡ []

-- the log has under each number a beginning of the list
abbrev pub HasEach : (numbers : List ℕ) → (log : List (ℕ × ℕ)) → Type 0
HasEach numbers log = (number : ℕ) → IsPrefix (entries_of number log) numbers
