-- Which changes of numbers are one turn of a pass.
use Rattle.std.proofs.Common.{ℕ, ◌≡◌, ◌≢◌, ◌∙◌, ◌+◌, ◌⊎◌, ⊎_elim, ◌==◌, ◌++◌, Bool, true, false, inl, inr, List, [], ◌∷◌, None, Option, Some, ap, append-nil, arith, cond, eq-eqb, if◌then◌else◌, ne_eqb, refl, sym}
use Rattle.std.specs.Option.{option_or}
use Rattle.std.proofs.lemmas.Bool.Decides.{nat_tests}
use Rattle.std.proofs.lemmas.List.Sums.{sum_by_push}
use Rattle.turn_lock.specs.Turns.{IsFresh, failed_by, under}
use Rattle.turn_tests.specs.declared.numbers.Numbers.{Numbers}
use Rattle.turn_tests.specs.Numbers.{Adds, failed_of, numbers}

-- the pass of one more failed turn has one more
failed_of-push : (number : ℕ) (failed : List ℕ)
    → failed_of number (failed ++ number ∷ []) ≡ failed_of number failed + 1
failed_of-push number failed = sum_by_push (λ by. cond (by == number) 1 0) failed number
    ∙ ap (λ test. failed_of number failed + cond test 1 0) (eq-eqb number number refl)

-- and no other pass has
failed_of-other : (number other : ℕ) (failed : List ℕ) → other ≢ number
    → failed_of other (failed ++ number ∷ []) ≡ failed_of other failed
failed_of-other number other failed apart =
    sum_by_push (λ by. cond (by == other) 1 0) failed number
    ∙ (ap (λ test. failed_of other failed + cond test 1 0)
    (ne_eqb number other (λ same. apart (sym same))) ∙ omega arith)

-- numbers without an entry and without a failed turn are fresh
pub IsFresh-empty : (value : Numbers) → value.log.items ≡ [] → value.failed.items ≡ []
    → IsFresh numbers value
IsFresh-empty value log failed number apart = rw (log, failed) refl

-- no turn failed in which the level stayed
failed_by-same : (level : ℕ) → failed_by level level ≡ 0
failed_by-same level = grind (arith, nat_tests)

-- a turn failed in which the level rose
failed_by-rise : (level : ℕ) → failed_by level (level + 1) ≡ 1
failed_by-rise level = grind (arith, nat_tests)

-- what was told first stays told, or nothing was
option_or-some : {A : Type 0} (told : Option A) (more : A)
    → (option_or told (Some more) ≡ told)
    ⊎ ((told ≡ None) × (option_or told (Some more) ≡ Some more))
option_or-some None more = inr (refl, refl)
option_or-some (Some told) more = inl refl

module _ (number : ℕ) (before after : Numbers) (first : after.first ≡ before.first) where
  -- entries were added, and nothing else was changed that is told
  pub Adds-entries : (entries : List ℕ)
      → after.log.items ≡ before.log.items ++ under number entries
      → after.level ≡ before.level → after.closer ≡ before.closer
      → after.failure ≡ before.failure → after.failed.items ≡ before.failed.items
      → Adds number entries 0 before after
  Adds-entries entries log level closer failure failed =
      let none : failed_by before.level after.level ≡ 0 =
      ap (failed_by before.level) level ∙ failed_by-same before.level in
      record {
        turn = record {
          start = first;
          added = entries;
          log = log;
          parts = λ other _. ap (failed_of other) failed;
          level = omega (arith, level);
          closer = inl closer;
          failure = inl failure;
          failed = omega (arith, ap (failed_of number) failed, none);
        };
        added = refl;
        fails = none;
      }

  -- a number was added, or was not
  pub Adds-number : (entry : ℕ) (added : Bool)
      → after.log.items
      ≡ (if added then before.log.items ++ (number, entry) ∷ [] else before.log.items)
      → after.level ≡ before.level → after.closer ≡ before.closer
      → after.failure ≡ before.failure → after.failed.items ≡ before.failed.items
      → Adds number (if added then entry ∷ [] else []) 0 before after
  Adds-number entry true log level closer failure failed =
      Adds-entries (entry ∷ []) log level closer failure failed
  Adds-number entry false log level closer failure failed =
      Adds-entries [] (log ∙ sym (append-nil before.log.items)) level closer failure failed

  -- the numbers were finished
  pub Adds-finish : after.log.items ≡ before.log.items
      → after.level ≡ before.level → after.closer ≡ option_or before.closer (Some number)
      → after.failure ≡ before.failure → after.failed.items ≡ before.failed.items
      → Adds number [] 0 before after
  Adds-finish log level closer failure failed =
      let none : failed_by before.level after.level ≡ 0 =
      ap (failed_by before.level) level ∙ failed_by-same before.level in
      record {
        turn = record {
          start = first;
          added = [];
          log = log ∙ sym (append-nil before.log.items);
          parts = λ other _. ap (failed_of other) failed;
          level = omega (arith, level);
          closer = ⊎_elim (λ stays. inl (closer ∙ stays)) (λ new. inr (new.0, closer ∙ new.1))
              (option_or-some before.closer number);
          failure = inl failure;
          failed = omega (arith, ap (failed_of number) failed, none);
        };
        added = refl;
        fails = none;
      }

  -- the turn failed
  pub Adds-fail : (told : ℕ × ℕ) → after.log.items ≡ before.log.items
      → after.level ≡ before.level + 1 → after.closer ≡ before.closer
      → after.failure ≡ option_or before.failure (Some told)
      → after.failed.items ≡ before.failed.items ++ number ∷ []
      → Adds number [] 1 before after
  Adds-fail told log level closer failure failed =
      let one : failed_by before.level after.level ≡ 1 =
      ap (failed_by before.level) level ∙ failed_by-rise before.level in
      let more : failed_of number after.failed.items ≡ failed_of number before.failed.items + 1 =
      ap (failed_of number) failed ∙ failed_of-push number before.failed.items in
      record {
        turn = record {
          start = first;
          added = [];
          log = log ∙ sym (append-nil before.log.items);
          parts = λ other apart.
              ap (failed_of other) failed ∙ failed_of-other number other before.failed.items apart;
          level = omega (arith, level);
          closer = inl closer;
          failure = ⊎_elim (λ stays. inl (failure ∙ stays))
              (λ new. inr (new.0, omega (arith, level)))
              (option_or-some before.failure told);
          failed = omega (arith, more, one);
        };
        added = refl;
        fails = one;
      }

-- a turn that changed nothing
pub Adds-none : (number : ℕ) (value : Numbers) → Adds number [] 0 value value
Adds-none number value = Adds-entries number value value refl [] (sym (append-nil value.log.items))
    refl refl refl refl
