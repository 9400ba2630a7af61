-- What a call of a disk in memory does to the images that a stop may leave.
use Rattle.std.proofs.Common.{ℕ, List, length, refl, sym, subst}
use Rattle.std.specs.Prelude.{None, Some, Result, Ok, Err}
use Rattle.std.specs.declared.option.Option.{Option}
use Rattle.depot_disk.specs.Image.{SameElsewhere}
use Rattle.depot_disk.specs.Torn.{Torn}
use Rattle.depot_disk.specs.State.{Stepped, Within}
use Rattle.depot_disk.specs.Life.{Removed, Synced, Wrote}
use Rattle.depot_disk.specs.Record.{Does, DoesIfThere, LeftBy, MemState}
use Rattle.depot_disk.proofs.TornLemmas.{Torn-same}
use Rattle.depot_disk.proofs.RecordLemmas.{LeftBy-remove, LeftBy-sync, LeftBy-write}

-- a write leaves each image torn at most
pub left-write : {T E : Type 0} (file at : ℕ) (bytes : List ℕ) (old new : MemState)
    (result : Result T E) → Does file (Wrote at bytes) old new result
    → Within (LeftBy new.steps) (Stepped (Torn file at (length bytes)) (LeftBy old.steps))
left-write file at bytes old new (Ok _) is =
    subst (λ (disk : MemState). Within (LeftBy disk.steps)
    (Stepped (Torn file at (length bytes)) (LeftBy old.steps))) (sym is)
    (LeftBy-write file at bytes old.steps)
left-write file at bytes old new (Err _) is =
    subst (λ (disk : MemState). Within (LeftBy disk.steps)
    (Stepped (Torn file at (length bytes)) (LeftBy old.steps))) (sym is)
    (λ image left. (image, left, Torn-same file at (length bytes) image))

-- a sync adds no image
pub left-sync : {T E : Type 0} (content : Option (List ℕ)) (file : ℕ) (old new : MemState)
    (result : Result T E) → DoesIfThere content file Synced old new result
    → Within (LeftBy new.steps) (LeftBy old.steps)
left-sync None file old new result does =
    subst (λ (disk : MemState). Within (LeftBy disk.steps) (LeftBy old.steps)) (sym does.0)
    (λ image left. left)
left-sync (Some bytes) file old new (Ok _) is =
    subst (λ (disk : MemState). Within (LeftBy disk.steps) (LeftBy old.steps)) (sym is)
    (LeftBy-sync file old.steps)
left-sync (Some bytes) file old new (Err _) is =
    subst (λ (disk : MemState). Within (LeftBy disk.steps) (LeftBy old.steps)) (sym is)
    (λ image left. left)

-- a removal leaves an image from before it, but for the file
pub left-remove : {T E : Type 0} (content : Option (List ℕ)) (file : ℕ) (old new : MemState)
    (result : Result T E) → DoesIfThere content file Removed old new result
    → Within (LeftBy new.steps) (Stepped (SameElsewhere file) (LeftBy old.steps))
left-remove None file old new result does =
    subst (λ (disk : MemState). Within (LeftBy disk.steps)
    (Stepped (SameElsewhere file) (LeftBy old.steps))) (sym does.0)
    (λ image left. (image, left, λ other apart. refl))
left-remove (Some bytes) file old new (Ok _) is =
    subst (λ (disk : MemState). Within (LeftBy disk.steps)
    (Stepped (SameElsewhere file) (LeftBy old.steps))) (sym is) (LeftBy-remove file old.steps)
left-remove (Some bytes) file old new (Err _) is =
    subst (λ (disk : MemState). Within (LeftBy disk.steps)
    (Stepped (SameElsewhere file) (LeftBy old.steps))) (sym is)
    (λ image left. (image, left, λ other apart. refl))
