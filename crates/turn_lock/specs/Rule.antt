-- The rule that each step on a turn keeps.
use Rattle.std.specs.Prelude.{ℕ, ◌≡◌, ◌≢◌, ◌+◌, ◌*◌, ◌≤◌, ◌<◌, ◌⊎◌, ◌∷◌, [], Bool, List, None, Option, Some, false, if◌then◌else◌, ◌==◌, length, map, sum_by, true}
use mathlib.Core.Option.{none, some}
use lib.ListN.{get_elem?}
use Rattle.atomic_table.specs.Table.{State}
use Rattle.turn_lock.specs.declared.known.View.{View}
use Rattle.turn_lock.specs.Turns.{IsUnused, Meaning}
use Rattle.turn_lock.specs.Passes.{IsIn, Tells, numbers_of}

-- what of a pass stays in its turns
pub record Frame : Type 0 where
  pub lives : Bool
  pub number : ℕ
  pub room : ℕ
  pub parent : Option ℕ
  pub to_join : ℕ
  pub joined : List ℕ

-- the number was given: it is the pass's own, or was joined to it
abbrev pub HasNumber : Frame → ℕ → Type 0
HasNumber frame number = (number ≡ frame.number) ⊎ IsIn number frame.joined

-- the number is neither the pass's own nor one that it may give
abbrev pub IsOutside : Frame → ℕ → Type 0
IsOutside frame number = (number < frame.number) ⊎ (frame.number + frame.room < number)

-- 1 for a pass that lives and was split off from the number, and else 0
abbrev pub count_child : (number : ℕ) → (lives : Bool) → (parent : Option ℕ) → ℕ
count_child number false parent = 0
count_child number true None = 0
count_child number true (Some parent) = if parent == number then 1 else 0

-- the same, of a frame
abbrev pub child_count : (number : ℕ) → Frame → ℕ
child_count number frame = count_child number frame.lives frame.parent

-- the fact holds of each pass that lives, with its seat
abbrev pub EachPass : List Frame → ((seat : ℕ) → Frame → Type 0) → Type 0
EachPass frames Fact = (seat : ℕ) (frame : Frame)
    → get_elem? frames seat ≡ some frame → frame.lives ≡ true → Fact seat frame

-- a pass lives of which the fact holds
pub record SomePass (frames : List Frame) (Fact : Frame → Type 0) : Type 0 where
  pub seat : ℕ
  pub frame : Frame
  pub at : get_elem? frames seat ≡ some frame
  pub lives : frame.lives ≡ true
  pub fact : Fact frame

-- the seat owns the numbers of its pass: its own, those joined to it, and those that it may give
pub record Owns (owner : ℕ → ℕ) (seat : ℕ) (frame : Frame) : Type 0 where
  pub own : owner frame.number ≡ seat
  pub joined : (number : ℕ) → IsIn number frame.joined
      → (owner number ≡ seat) × IsOutside frame number
  pub spare : (number : ℕ) → frame.number < number → number ≤ frame.number + frame.room
      → owner number ≡ seat

-- the pass stands in the tree of passes, whose root has the number 0
pub record IsInTree (frames : List Frame) (frame : Frame) : Type 0 where
  pub children : sum_by (child_count frame.number) frames ≡ frame.to_join
  pub parent : (parent : ℕ) → frame.parent ≡ Some parent
      → (parent < frame.number) × SomePass frames (λ other. other.number ≡ parent)
  pub root : frame.parent ≡ None → frame.number ≡ 0

-- each pass owns its numbers, and the passes form a tree
pub record IsDealt (owner : ℕ → ℕ) (frames : List Frame) : Type 0 where
  pub owns : EachPass frames (Owns owner)
  pub tree : EachPass frames (λ _. IsInTree frames)

module _ {V S E P : Type 0} where
  abbrev pub frame_of : View V S E P → Frame
  frame_of view = record {
    lives = view.lives;
    number = view.known.number;
    room = view.known.room;
    parent = view.known.parent;
    to_join = view.known.to_join;
    joined = numbers_of view.known.joined;
  }

  abbrev pub frames_of : List (View V S E P) → List Frame
  frames_of views = map frame_of views

module _ {V S E P : Type 0} (m : Meaning V S E P) where
  -- the turn is free: the word is twice the length of the log, and the value is at home
  pub record IsFree (s : State (Option V) (View V S E P)) (value : V) : Type 0 where
    pub words : s.words ≡ (2 * length (m.log value)) ∷ []
    pub homes : s.homes ≡ some (Some value) ∷ []
    pub found : (seat : ℕ) (view : View V S E P) → get_elem? s.views seat ≡ some view
        → view.found ≡ None

  -- one seat has the turn, in which it found the value
  pub record IsTaken (s : State (Option V) (View V S E P)) (value : V) : Type 0 where
    pub words : s.words ≡ (2 * length (m.log value) + 1) ∷ []
    pub homes : s.homes ≡ none ∷ []
    pub holder : ℕ
    pub view : View V S E P
    pub at : get_elem? s.views holder ≡ some view
    pub lives : view.lives ≡ true
    pub found : view.found ≡ Some value
    pub others : (seat : ℕ) (other : View V S E P) → seat ≢ holder
        → get_elem? s.views seat ≡ some other → other.found ≡ None

  -- what holds between any two steps
  pub record IsKept (s : State (Option V) (View V S E P)) : Type 0 where
    pub owner : ℕ → ℕ
    pub value : V
    pub dealt : IsDealt owner (frames_of s.views)
    pub tells : (seat : ℕ) (view : View V S E P) → get_elem? s.views seat ≡ some view
        → view.lives ≡ true → Tells m view.known value
    -- each number is of some pass, or is not in use
    pub covered : (number : ℕ) → SomePass (frames_of s.views) (λ frame. HasNumber frame number)
        ⊎ IsUnused m value number
    pub place : IsFree s value ⊎ IsTaken s value
