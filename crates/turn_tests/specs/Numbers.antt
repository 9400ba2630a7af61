-- What numbers behind a turn tell, and what one turn of a caller does to them.
use Rattle.std.specs.Prelude.{ℕ, ◌≡◌, ◌==◌, List, count_by, refl, true}
use Rattle.turn_lock.specs.Turns.{Meaning, TakesTurn, failed_by}
use Rattle.turn_tests.specs.declared.numbers.Numbers.{Numbers}

-- how many of the failed turns are of the pass with the number
abbrev pub failed_of : (number : ℕ) → (failed : List ℕ) → ℕ
failed_of number failed = count_by (λ by. by == number) failed

-- the part of a pass is how many of its turns failed
abbrev pub numbers : Meaning Numbers ℕ ℕ ℕ
numbers = record {
  start = λ value. value.first;
  log = λ value. value.log.items;
  level = λ value. value.level;
  closer = λ value. value.closer;
  failure = λ value. value.failure;
  part = λ value number. failed_of number value.failed.items;
  unused = 0;
  is_empty = λ part. true;
  failed_turns = λ part. part;
  unused_is_empty = refl;
  unused_has_no_failed = refl;
}

-- a turn of the pass with the number added the entries, and failed so many times: once or not at all
pub record Adds (number : ℕ) (entries : List ℕ) (failed : ℕ) (before after : Numbers) : Type 0 where
  pub turn : TakesTurn numbers number before after
  pub added : turn.added ≡ entries
  pub fails : failed_by before.level after.level ≡ failed
