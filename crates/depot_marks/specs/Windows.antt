-- Runs of partitions and the time that they cover.
use Rattle.std.specs.Prelude.{ℕ, ◌<◌, ◌≤◌, ◌+◌, ◌-◌}
use Rattle.partition_map.specs.declared.parts.Parts.{Parts}
use Rattle.partition_map.specs.Partitions.{start_of}
use Rattle.partition_map.specs.Time.{END}

-- there is a partition in a run, and its last one begins in time
pub record BeginsInTime (width : ℕ) (parts : Parts) : Type 0 where
  pub some : 0 < parts.count
  pub last : start_of width (parts.first + parts.count - 1) < END
  pub within : parts.first + parts.count ≤ END
