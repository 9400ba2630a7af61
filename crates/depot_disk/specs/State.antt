-- What a disk tells of itself, and how it goes on in time.
use Rattle.std.specs.Prelude.{◌≡◌, ◌≤◌, ◌⊎◌, ℕ, ⊤, None, Some, IsSome, IfSome, Result}
use Rattle.std.specs.declared.option.Option.{Option}
use Rattle.depot_io.specs.Causes.{HasCause}
use Rattle.depot_disk.specs.Image.{Image}

-- what it holds, if it tells that; the images that a stop may leave now; the moment, a number that
-- never falls; the images that a stop may have left at some moment from one on; and how often a
-- call has failed
pub record DiskState : Type 1 where
  pub holds : Option Image
  pub may_leave : Image → Type 0
  pub moment : ℕ
  pub left_since : ℕ → Image → Type 0
  pub faults : ℕ

-- every image of the one is one of the other
abbrev pub Within : (Image → Type 0) → (Image → Type 0) → Type 0
Within some others = (image : Image) → some image → others image

-- one of these images after a step
abbrev pub Stepped : (Image → Image → Type 0) → (Image → Type 0) → Image → Type 0
Stepped step images image = (from : Image) × images from × step from image

-- what a disk holds goes by a step, if the disk tells it
abbrev pub Becomes : (Image → Image → Type 0) → Option Image → Option Image → Type 0
Becomes step (Some old) (Some new) = step old new
Becomes step None None = ⊤
Becomes step _ _ = ⊥

-- a stop leaves this file as it is held, if it is there
abbrev pub Fixed : ℕ → Image → (Image → Type 0) → Type 0
Fixed file held images =
    IsSome (held file) → (image : Image) → images image → image file ≡ held file

-- neither what a disk holds nor its images change
pub record Unchanged (old new : DiskState) : Type 0 where
  pub held : new.holds ≡ old.holds
  pub no_more : Within new.may_leave old.may_leave
  pub no_fewer : Within old.may_leave new.may_leave

-- time goes on: a stop since a moment may have left what it may have left before this call, or
-- what it may leave now
pub record Elapses (old new : DiskState) : Type 0 where
  pub later : old.moment ≤ new.moment
  pub no_more : (from : ℕ) (image : Image) → from ≤ old.moment → new.left_since from image
      → old.left_since from image ⊎ new.may_leave image
  pub no_fewer : (from : ℕ) (image : Image) → from ≤ old.moment → old.left_since from image
      → new.left_since from image

-- whatever a call does and answers: time goes on, and only a fault that was counted makes it fail
pub record IsCall {T E : Type 0} (old new : DiskState) (result : Result T E) : Type 0 where
  pub time : Elapses old new
  pub cause : HasCause old.faults new.faults result

-- a call that only reads
pub record IsReading {T E : Type 0} (old new : DiskState) (result : Result T E) : Type 0 where
  pub same : Unchanged old new
  pub call : IsCall old new result

-- what a disk tells is of one piece: what it holds is one of its images, these count from each
-- earlier moment on, and since this moment there are no others
pub record IsDiskState (state : DiskState) : Type 0 where
  pub held_is_left : IfSome state.holds state.may_leave
  pub counts_now : (from : ℕ) (image : Image) → from ≤ state.moment → state.may_leave image
      → state.left_since from image
  pub only_now : Within (state.left_since state.moment) state.may_leave

-- of a run of calls: at each moment of it a stop leaves an image of this kind. The last part is
-- for a run that began earlier, and of which this is the end
pub record LeavesOnly (old new : DiskState) (Kind : Image → Type 0) : Type 0 where
  pub later : old.moment ≤ new.moment
  pub each : Within (new.left_since old.moment) Kind
  pub before : (from : ℕ) (image : Image) → from ≤ old.moment → new.left_since from image
      → old.left_since from image ⊎ Kind image
