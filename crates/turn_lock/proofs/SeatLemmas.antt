-- Which passes there are after one of them changed, or came, and how many children each has.
use Rattle.std.proofs.Common.{ℕ, ◌≡◌, ◌≢◌, ◌∙◌, Bool, true, false, List, [], ◌∷◌, ◌++◌, None, Option, Some, arith, eq-eqb, length, ne_eqb, refl, set, subst, sum_by}
use mathlib.Core.Logic.{dite}
use mathlib.Core.Option.{some}
use lib.ListN.{get_elem?}
use native.Mathlib.Decide.{ℕ_discrete}
use Rattle.atomic_table.proofs.Lists.{at_longer, set_else}
use Rattle.turn_lock.specs.Rule.{EachPass, Frame, SomePass, child_count, count_child}
use Rattle.turn_lock.proofs.ListLemmas.{at-same, at-set, each-push, each-set, sum_by-at}

-- each pass after one changed: the others, and that one
pub EachPass-set : (frames : List Frame) (seat : ℕ) (frame : Frame) (Fact : ℕ → Frame → Type 0)
    → ((other : ℕ) (kept : Frame) → other ≢ seat → get_elem? frames other ≡ some kept
    → kept.lives ≡ true → Fact other kept)
    → (frame.lives ≡ true → Fact seat frame) → EachPass (set frames seat frame) Fact
EachPass-set frames seat frame Fact =
    each-set frames seat frame (λ seat frame. frame.lives ≡ true → Fact seat frame)

-- each pass after one came
pub EachPass-push : (frames : List Frame) (frame : Frame) (Fact : ℕ → Frame → Type 0)
    → EachPass frames Fact → Fact (length frames) frame → EachPass (frames ++ frame ∷ []) Fact
EachPass-push frames frame Fact each new =
    each-push frames frame (λ seat frame. frame.lives ≡ true → Fact seat frame) each (λ _. new)

-- some pass after one changed
pub SomePass-set : (frames : List Frame) (seat : ℕ) (old new : Frame) (Fact : Frame → Type 0)
    → get_elem? frames seat ≡ some old → new.lives ≡ true → (Fact old → Fact new)
    → SomePass frames Fact → SomePass (set frames seat new) Fact
SomePass-set frames seat old new Fact at lives changed pass = dite (ℕ_discrete pass.seat seat)
    (λ same. record {
      seat = seat;
      frame = new;
      at = at-set frames seat old new at;
      lives = lives;
      fact = changed (subst Fact (at-same frames seat pass.frame old
          (subst (λ place. get_elem? frames place ≡ some pass.frame) same pass.at) at) pass.fact);
    })
    (λ apart. record {
      seat = pass.seat;
      frame = pass.frame;
      at = set_else frames seat pass.seat new apart ∙ pass.at;
      lives = pass.lives;
      fact = pass.fact;
    })

-- some pass after one came
pub SomePass-push : (frames : List Frame) (frame : Frame) (Fact : Frame → Type 0)
    → SomePass frames Fact → SomePass (frames ++ frame ∷ []) Fact
SomePass-push frames frame Fact pass = record {
  seat = pass.seat;
  frame = pass.frame;
  at = at_longer frames (frame ∷ []) pass.seat pass.frame pass.at;
  lives = pass.lives;
  fact = pass.fact;
}

-- some pass after one that is not meant ended
pub SomePass-end : (frames : List Frame) (seat : ℕ) (old new : Frame) (Fact : Frame → Type 0)
    → get_elem? frames seat ≡ some old → (Fact old → ⊥)
    → SomePass frames Fact → SomePass (set frames seat new) Fact
SomePass-end frames seat old new Fact at not_it pass = dite (ℕ_discrete pass.seat seat)
    (λ same. absurd (not_it (subst Fact (at-same frames seat pass.frame old
    (subst (λ place. get_elem? frames place ≡ some pass.frame) same pass.at) at) pass.fact)))
    (λ apart. record {
      seat = pass.seat;
      frame = pass.frame;
      at = set_else frames seat pass.seat new apart ∙ pass.at;
      lives = pass.lives;
      fact = pass.fact;
    })

-- a pass of the number is a child of it
pub count_child-same : (number parent : ℕ) → parent ≡ number
    → count_child number true (Some parent) ≡ 1
count_child-same number parent same = rw (eq-eqb parent number same) refl

-- a pass that was split off from another number is no child of it
pub count_child-apart : (number parent : ℕ) → parent ≢ number
    → count_child number true (Some parent) ≡ 0
count_child-apart number parent apart = rw (ne_eqb parent number apart) refl

-- a pass that was split off from no such number is no child of it
pub count_child-none : (number : ℕ) (lives : Bool) (parent : Option ℕ)
    → ((other : ℕ) → lives ≡ true → parent ≡ Some other → other ≢ number)
    → count_child number lives parent ≡ 0
count_child-none number false parent apart = refl
count_child-none number true None apart = refl
count_child-none number true (Some other) apart =
    rw (ne_eqb other number (apart other refl refl)) refl

-- how many children a number has after a pass changed
pub children-set : (number : ℕ) (frames : List Frame) (seat : ℕ) (old new : Frame)
    → get_elem? frames seat ≡ some old → new.lives ≡ old.lives → new.parent ≡ old.parent
    → sum_by (child_count number) (set frames seat new) ≡ sum_by (child_count number) frames
children-set number frames seat old new at lives parent =
    let same : child_count number new ≡ child_count number old =
    λ i. count_child number (lives i) (parent i) in
    let change = sum_by-at (child_count number) frames seat old new at in
    omega (arith, change, same)
