-- Calls that only read a disk, one after the other; and a refusal of one, which is one of all.
use Rattle.std.proofs.Common.{ℕ, ap, refl, subst}
use Rattle.std.specs.Prelude.{⊤, Result, Ok, Err}
use Rattle.catalog_journal.specs.declared.fault.LogFault.{LogFault}
use Rattle.catalog_journal.specs.declared.fault.LogFault.TheVariants as fault
use Rattle.catalog_journal.specs.Answers.{HasFaultCause, IsLogReading}
use Rattle.depot_disk.specs.State.{DiskState}
use Rattle.depot_disk.proofs.StateLemmas.{Elapses-both, Elapses-same, Unchanged-both, Unchanged-same}
use Rattle.depot_recovery.specs.Found.{◌>>=◌}
use Rattle.depot_recovery.specs.Recovered.{Refuses}

-- before the first call nothing was read
pub IsLogReading-same : (state : DiskState) → IsLogReading {T = ⊤} state state (Ok tt)
IsLogReading-same state = record {
  same = Unchanged-same state;
  time = Elapses-same state;
  cause = refl;
}

-- a reading after one that went well
pub IsLogReading-both : {S T : Type 0} {value : S} (old mid new : DiskState)
    (second : Result T LogFault) → IsLogReading old mid (Ok value) → IsLogReading mid new second
    → IsLogReading old new second
IsLogReading-both old mid new second first next = record {
  same = Unchanged-both old mid new first.same next.same;
  time = Elapses-both old mid new first.time next.time next.same.no_fewer;
  cause = subst (λ (count : ℕ). HasFaultCause count new.faults second) first.cause next.cause;
}

-- a refused reading, of whatever was to be read
HasFaultCause-err : (T U : Type 0) (before now : ℕ) (refused : LogFault)
    → HasFaultCause {T = T} before now (Err refused)
    → HasFaultCause {T = U} before now (Err refused)
HasFaultCause-err T U before now fault.NotFound cause = cause
HasFaultCause-err T U before now (fault.Damaged file place) cause = cause
HasFaultCause-err T U before now fault.Exists cause = cause
HasFaultCause-err T U before now fault.DiskFault cause = cause
HasFaultCause-err T U before now fault.Memory cause = cause

pub IsLogReading-err : {T U : Type 0} (old new : DiskState) (refused : LogFault)
    → IsLogReading {T = T} old new (Err refused) → IsLogReading {T = U} old new (Err refused)
IsLogReading-err {T = T} {U = U} old new refused reading = record {
  same = reading.same;
  time = reading.time;
  cause = HasFaultCause-err T U old.faults new.faults refused reading.cause;
}

-- a refusal of a step is one of all
pub Refuses-passed : {A B : Type 0} (finding : Result A LogFault) (next : A → Result B LogFault)
    (refused : LogFault) → Refuses finding refused → Refuses (finding >>= next) refused
Refuses-passed finding next fault.NotFound refuses = ap (λ finding. finding >>= next) refuses
Refuses-passed finding next (fault.Damaged file place) refuses =
    ap (λ finding. finding >>= next) refuses
Refuses-passed finding next fault.Exists refuses = absurd refuses
Refuses-passed finding next fault.DiskFault refuses = tt
Refuses-passed finding next fault.Memory refuses = tt
