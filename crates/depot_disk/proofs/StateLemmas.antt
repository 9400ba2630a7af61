-- Calls that only read, one after the other: take `IsReading-both`.
use Rattle.std.proofs.Common.{ℕ, refl, ◌∙◌, subst, arith}
use Rattle.std.specs.Prelude.{Result, Ok, Err, IsErr}
use Rattle.std.proofs.lemmas.Bool.{false≢true}
use mathlib.Core.Logic.{inl, inr}
use Rattle.depot_io.specs.Causes.{HasCause}
use Rattle.depot_disk.specs.State.{DiskState, Elapses, IsReading, Unchanged, Within}

-- time that does not go on
pub Elapses-same : (state : DiskState) → Elapses state state
Elapses-same state = record {
  later = omega arith;
  no_more = λ from image le left. inl left;
  no_fewer = λ from image le left. left;
}

-- nothing changes
pub Unchanged-same : (state : DiskState) → Unchanged state state
Unchanged-same state = record {
  held = refl;
  no_more = λ image left. left;
  no_fewer = λ image left. left;
}

-- two calls that change nothing, one after the other
pub Unchanged-both : (old mid new : DiskState)
    → Unchanged old mid → Unchanged mid new → Unchanged old new
Unchanged-both old mid new first second = record {
  held = second.held ∙ first.held;
  no_more = λ image left. first.no_more image (second.no_more image left);
  no_fewer = λ image left. second.no_fewer image (first.no_fewer image left);
}

-- time that goes on twice; the second call adds no image
pub Elapses-both : (old mid new : DiskState) → Elapses old mid → Elapses mid new
    → Within mid.may_leave new.may_leave → Elapses old new
Elapses-both old mid new first second stays = record {
  later = omega (arith, first.later, second.later);
  no_more = λ from image le left.
      elim (second.no_more from image (omega (arith, le, first.later)) left) [
        | inl past ↦ elim (first.no_more from image le past) [
          | inl early ↦ inl early
          | inr here ↦ inr (stays image here)
        ]
        | inr now ↦ inr now
      ];
  no_fewer = λ from image le left. second.no_fewer from image (omega (arith, le, first.later))
      (first.no_fewer from image le left);
}

-- a call that succeeds, and then another: the cause of what both answer
pub HasCause-both : {T E U F : Type 0} (before mid now : ℕ) (value : T) (second : Result U F)
    → HasCause {E = E} before mid (Ok value) → HasCause mid now second → HasCause before now second
HasCause-both before mid now value second first next =
    subst (λ (count : ℕ). HasCause count now second) first.kept next

-- two readings, one after the other
pub IsReading-both : {T E U F : Type 0} (old mid new : DiskState) (value : T) (second : Result U F)
    → IsReading {E = E} old mid (Ok value) → IsReading mid new second → IsReading old new second
IsReading-both old mid new value second first next = record {
  same = Unchanged-both old mid new first.same next.same;
  call = record {
    time = Elapses-both old mid new first.call.time next.call.time next.same.no_fewer;
    cause = HasCause-both old.faults mid.faults new.faults value second first.call.cause
        next.call.cause;
  };
}

-- of a reading that succeeds it is no matter what it answers
pub IsReading-ok : {T E U F : Type 0} (old new : DiskState) (value : T) (other : U)
    → IsReading {E = E} old new (Ok value) → IsReading {E = F} old new (Ok other)
IsReading-ok old new value other reading = record {
  same = reading.same;
  call = record {
    time = reading.call.time;
    cause = record {
      later = reading.call.cause.later;
      failed = tt;
      kept = reading.call.cause.kept;
    };
  };
}

-- no call at all is a reading that succeeds
pub IsReading-none : {T E : Type 0} (state : DiskState) (value : T)
    → IsReading {E = E} state state (Ok value)
IsReading-none state value = record {
  same = Unchanged-same state;
  call = record {
    time = Elapses-same state;
    cause = record { later = omega arith; failed = tt; kept = refl };
  };
}

-- of a reading that fails it is no matter how the fault is handed on
pub IsReading-err : {T E U F : Type 0} (old new : DiskState) (fault : E) (result : Result U F)
    → IsErr result → IsReading {T = T} old new (Err fault) → IsReading old new result
IsReading-err old new fault (Ok _) is reading = absurd (false≢true is)
IsReading-err old new fault (Err _) is reading = record {
  same = reading.same;
  call = record {
    time = reading.call.time;
    cause = record {
      later = reading.call.cause.later;
      failed = reading.call.cause.failed;
      kept = tt;
    };
  };
}
