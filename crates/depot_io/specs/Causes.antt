-- When a call may fail: only if the count of the outside's faults rose in it.
use Rattle.std.specs.Prelude.{◌≡◌, ℕ, ◌+◌, ◌-◌, ◌^◌, ◌≤◌, ◌<◌, ◌⊎◌, min, OnOk, OnErr, Result}

-- the greatest count of faults
abbrev pub LAST_COUNT : ℕ
LAST_COUNT = 2 ^ 64 - 1

-- the count after this one; the last one stays
abbrev pub next_count : ℕ → ℕ
next_count count = min (count + 1) LAST_COUNT

-- a count of faults rose, or was the last one before and is so now
abbrev pub Rose : ℕ → ℕ → Type 0
Rose before now = (before < now) ⊎ ((before ≡ LAST_COUNT) × (now ≡ LAST_COUNT))

-- the call failed only if the count rose, and passed over no fault
pub record HasCause {T E : Type 0} (before now : ℕ) (result : Result T E) : Type 0 where
  pub later : before ≤ now
  pub failed : OnErr result (Rose before now)
  pub kept : OnOk result (now ≡ before)
