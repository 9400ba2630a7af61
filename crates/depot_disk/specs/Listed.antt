-- Disks that fail on purpose: which calls fail, and how the faults are counted.
use Rattle.std.specs.Prelude.{◌≡◌, ◌+◌, ◌↔◌, ℕ, min, Contains, List, set, get_or, Result}
use Rattle.std.specs.Prelude.{IsErr}
use Rattle.depot_io.specs.Causes.{LAST_COUNT, next_count}
use Rattle.depot_disk.specs.declared.verb.Verb.{Verb}
use Rattle.depot_disk.specs.declared.verb.Verb.TheVariants.{Size, FirstFrom, Read, Write, Sync, Remove}
use Rattle.depot_disk.specs.State.{DiskState}

-- the faults of two counts together
abbrev pub both_counts : ℕ → ℕ → ℕ
both_counts one other = min (one + other) LAST_COUNT

-- what a disk tells that counts faults of its own beside those of the disk below it
abbrev pub counting : ℕ → DiskState → DiskState
counting own state = record state { faults = both_counts state.faults own }

-- where the calls of a verb are counted
abbrev pub place_of : Verb → ℕ
place_of Size = 0
place_of FirstFrom = 1
place_of Read = 2
place_of Write = 3
place_of Sync = 4
place_of Remove = 5

-- a call fails exactly if it is listed, by its verb and its number, and each call counts
pub record IsListedCall {T E : Type 0} (verb : Verb) (fails : List (Verb × ℕ)) (old new : List ℕ)
    (result : Result T E) : Type 0 where
  pub failed : IsErr result ↔ Contains fails (verb, next_count (get_or old (place_of verb) 0))
  pub counted : new ≡ set old (place_of verb) (next_count (get_or old (place_of verb) 0))
