-- A disk that tells its faults alone.
use Rattle.std.specs.Prelude.{ℕ, ⊤, None}
use Rattle.depot_disk.specs.State.{DiskState, IsDiskState}

-- nothing is known of what it holds, and a stop may leave any image
abbrev pub telling_faults : ℕ → DiskState
telling_faults faults = record {
  holds = None;
  may_leave = λ image. ⊤;
  moment = 0;
  left_since = λ from image. ⊤;
  faults = faults;
}

-- it is of one piece
pub IsDiskState-telling : (faults : ℕ) → IsDiskState (telling_faults faults)
IsDiskState-telling faults = record {
  held_is_left = tt;
  counts_now = λ from image early left. tt;
  only_now = λ image left. tt;
}
