-- A write that stays, on a disk that tells what it holds: what a stop leaves after it.
use Rattle.std.proofs.Common.{◌≡◌, ℕ, List, [], length, refl, ◌∙◌, ap, subst}
use Rattle.std.specs.Prelude.{None, Some, IfSome, IsSome, is_some, unwrap_or}
use Rattle.std.specs.declared.option.Option.{Option}
use Rattle.std.proofs.lemmas.Bool.{false≢true}
use Rattle.depot_disk.specs.Image.{Image, SameElsewhere, bytes_in, overwritten, written}
use Rattle.depot_disk.specs.Torn.{Torn}
use Rattle.depot_disk.specs.State.{Becomes, DiskState, IsDiskState, LeavesOnly, Stepped, Within}
use Rattle.depot_disk.proofs.TornLemmas.{with_file-same}

-- what is known of a write that stays
pub record IsThrough (old new : DiskState) (file at : ℕ) (bytes : List ℕ) : Type 0 where
  pub told_old : IsDiskState old
  pub told_new : IsDiskState new
  pub run : LeavesOnly old new (Stepped (Torn file at (length bytes)) old.may_leave)
  pub durable : IfSome old.holds (λ image. (left : Image) → new.may_leave left
      → left file ≡ Some (overwritten (bytes_in image file) at bytes))

-- an image from before, over whose file all images from after have the bytes
pub record IsOver (before now : Image → Type 0) (file at : ℕ) (bytes : List ℕ) : Type 0 where
  pub held : Image
  pub was : before held
  pub here : (image : Image) → now image
      → image file ≡ Some (overwritten (bytes_in held file) at bytes)

-- of a disk that tells what it holds
held_image : (held : Option Image) → IsSome held → (image : Image) × (held ≡ Some image)
held_image (Some image) is = (image, refl)
held_image None is = absurd (false≢true is)

-- what is said of what it holds is said of that image
IfSome-at : (P : Image → Type 0) (held : Option Image) (image : Image) → held ≡ Some image
    → IfSome held P → P image
IfSome-at P held image is told = subst (λ (o : Option Image). IfSome o P) is told

-- what a stop leaves after a run is of its kind
pub LeavesOnly-now : (old new : DiskState) (Kind : Image → Type 0) → IsDiskState new
    → LeavesOnly old new Kind → Within new.may_leave Kind
LeavesOnly-now old new Kind told run = λ image left.
    run.each image (told.counts_now old.moment image run.later left)

module _ (old new : DiskState) (file at : ℕ) (bytes : List ℕ)
    (through : IsThrough old new file at bytes) where
  -- it is torn at most
  pub IsThrough-torn : Within new.may_leave (Stepped (Torn file at (length bytes)) old.may_leave)
  IsThrough-torn = LeavesOnly-now old new (Stepped (Torn file at (length bytes)) old.may_leave)
      through.told_new through.run

  -- and it is whole
  pub IsOver-through : IsSome old.holds → IsOver old.may_leave new.may_leave file at bytes
  IsOver-through shown =
      let held : (image : Image) × (old.holds ≡ Some image) = held_image old.holds shown in
      record {
        held = held.0;
        was = IfSome-at old.may_leave old.holds held.0 held.1 through.told_old.held_is_left;
        here = IfSome-at (λ image. (left : Image) → new.may_leave left
            → left file ≡ Some (overwritten (bytes_in image file) at bytes))
            old.holds held.0 held.1 through.durable;
      }

-- what stands in a file that was written
pub bytes_in-written : (file at : ℕ) (bytes : List ℕ) (image : Image)
    → bytes_in (written file at bytes image) file ≡ overwritten (bytes_in image file) at bytes
bytes_in-written file at bytes image =
    ap (λ (content : Option (List ℕ)). unwrap_or content [])
    (with_file-same image file (Some (overwritten (bytes_in image file) at bytes)))

-- two steps that leave every other file
pub SameElsewhere-both : (file : ℕ) (old mid new : Image)
    → SameElsewhere file old mid → SameElsewhere file mid new → SameElsewhere file old new
SameElsewhere-both file old mid new first second = λ other apart.
    second other apart ∙ first other apart

-- a disk that tells what it holds tells it after a step
pub Becomes-told : (step : Image → Image → Type 0) (old new : Option Image)
    → Becomes step old new → is_some new ≡ is_some old
Becomes-told step (Some old) (Some new) is = refl
Becomes-told step None None is = refl
Becomes-told step (Some old) None is = absurd is
Becomes-told step None (Some new) is = absurd is
