-- What the file of an entry holds, and what putting one there does.
use Rattle.std.specs.Prelude.{◌≡◌, ℕ, List, length, take, Result, None}
use Rattle.std.specs.Prelude.{IsSomeAnd, IsSome, OnOk, IfSome}
use Rattle.depot_io.specs.Causes.{HasCause}
use Rattle.depot_disk.specs.Image.{Image, SameElsewhere}
use Rattle.depot_disk.specs.State.{Becomes, DiskState, LeavesOnly, Stepped, Within}

-- a list begins with another
abbrev pub Begins : {A : Type 0} → List A → List A → Type 0
Begins whole front = take (length front) whole ≡ front

-- a file is there and begins with these bytes
abbrev pub HoldsFront : (file : ℕ) → List ℕ → Image → Type 0
HoldsFront file bytes image = IsSomeAnd (image file) (λ whole. Begins whole bytes)

-- a file is written from its first byte on, and synced. At each moment every other file is as it
-- was; after an Ok the file begins with the bytes, and a stop leaves it so
pub record PutsFile {T E : Type 0} (file : ℕ) (bytes : List ℕ) (old new : DiskState)
    (result : Result T E) : Type 0 where
  pub held : OnOk result (IfSome new.holds (HoldsFront file bytes))
  pub durable : OnOk result (IsSome old.holds → Within new.may_leave (HoldsFront file bytes))
  pub elsewhere : Becomes (SameElsewhere file) old.holds new.holds
  pub any_moment : LeavesOnly old new (Stepped (SameElsewhere file) old.may_leave)
  pub cause : HasCause old.faults new.faults result

-- a file is taken away. At each moment every other file is as it was; after an Ok the file is
-- absent on the disk, but a stop may leave it with any bytes until it is written and synced again
pub record RemovesFile {T E : Type 0} (file : ℕ) (old new : DiskState) (result : Result T E)
    : Type 0 where
  pub held : OnOk result (IfSome new.holds (λ image. image file ≡ None))
  pub elsewhere : Becomes (SameElsewhere file) old.holds new.holds
  pub any_moment : LeavesOnly old new (Stepped (SameElsewhere file) old.may_leave)
  pub cause : HasCause old.faults new.faults result
