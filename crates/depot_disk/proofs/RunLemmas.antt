-- Runs of calls: what a stop leaves at each moment of them. Take `LeavesOnly-call` for one call,
-- `LeavesOnly-both` for two runs one after the other, and `LeavesOnly-wider` for a wider kind.
use Rattle.std.proofs.Common.{arith}
use mathlib.Core.Logic.{inl, inr}
use Rattle.depot_disk.specs.Image.{Image}
use Rattle.depot_disk.specs.State.{DiskState, Elapses, IsDiskState, LeavesOnly, Within}

-- one call, before and after which a stop leaves only images of a kind
pub LeavesOnly-call : (old new : DiskState) (Kind : Image → Type 0)
    → IsDiskState old → Elapses old new → Within old.may_leave Kind → Within new.may_leave Kind
    → LeavesOnly old new Kind
LeavesOnly-call old new Kind told time was now = record {
  later = time.later;
  each = λ image left. elim (time.no_more old.moment image (omega arith) left) [
    | inl past ↦ was image (told.only_now image past)
    | inr here ↦ now image here
  ];
  before = λ from image le left. elim (time.no_more from image le left) [
    | inl past ↦ inl past
    | inr here ↦ inr (now image here)
  ];
}

-- two runs, one after the other
pub LeavesOnly-both : (old mid new : DiskState) (Kind : Image → Type 0)
    → LeavesOnly old mid Kind → LeavesOnly mid new Kind → LeavesOnly old new Kind
LeavesOnly-both old mid new Kind first second = record {
  later = omega (arith, first.later, second.later);
  each = λ image left. elim (second.before old.moment image first.later left) [
    | inl past ↦ first.each image past
    | inr kind ↦ kind
  ];
  before = λ from image le left.
      elim (second.before from image (omega (arith, le, first.later)) left) [
        | inl past ↦ first.before from image le past
        | inr kind ↦ inr kind
      ];
}

-- images of a wider kind
pub LeavesOnly-wider : (old new : DiskState) (Kind Wider : Image → Type 0)
    → Within Kind Wider → LeavesOnly old new Kind → LeavesOnly old new Wider
LeavesOnly-wider old new Kind Wider within run = record {
  later = run.later;
  each = λ image left. within image (run.each image left);
  before = λ from image le left. elim (run.before from image le left) [
    | inl past ↦ inl past
    | inr kind ↦ inr (within image kind)
  ];
}
