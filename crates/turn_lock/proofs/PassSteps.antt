-- The steps between turns keep the rule: a split and a join. And what a closed table tells.
use Rattle.std.proofs.Common.{ℕ, ◌≡◌, ◌∙◌, ◌<◌, ◌⊎◌, ⊎_elim, true, inl, inr, List, ◌∷◌, None, Option, Some, ap, refl, set, subst, sym, true≢false}
use mathlib.Core.List.{map-append}
use mathlib.Core.Option.{some}
use lib.ListN.{get_elem?}
use Rattle.atomic_table.specs.Table.{Final, Joins, Seen, Splits, State}
use Rattle.atomic_table.proofs.Lists.{set_else}
use Rattle.turn_lock.specs.declared.known.View.{View}
use Rattle.turn_lock.specs.Turns.{IsUnused, Meaning}
use Rattle.turn_lock.specs.Passes.{Tells, TellsAll}
use Rattle.turn_lock.specs.Rule.{Frame, HasNumber, IsDealt, IsKept, IsTaken, SomePass, frame_of, frames_of}
use Rattle.turn_lock.specs.Steps.{joined_view, left_view, right_view, spent_view}
use Rattle.turn_lock.proofs.ListLemmas.{at-same, each-push, each-set}
use Rattle.turn_lock.proofs.TellsLemmas.{Tells-join, Tells-split, Tells-split_off}
use Rattle.turn_lock.proofs.SplitLemmas.{IsDealt-split, given-split, split_owner}
use Rattle.turn_lock.proofs.JoinLemmas.{IsDealt-join, alone, given-join, join_frames, join_owner, joined_frame}
use Rattle.turn_lock.proofs.ViewLemmas.{Placed-push, Placed-set, found-apart, frames-at, frames-join, frames-split, with_views}

module _ {V S E P : Type 0} where
  -- the frame of a pass to which another was joined
  frame-joined : (view other : View V S E P)
      → frame_of (joined_view view other) ≡ joined_frame (frame_of view) (frame_of other)
  frame-joined view other = ap
      (λ joined. record (joined_frame (frame_of view) (frame_of other)) { joined = joined })
      (map-append (λ given. given.0) view.known.joined
      ((other.known.number, other.known.own) ∷ other.known.joined))

module _ {V S E P : Type 0} (m : Meaning V S E P) where
  -- a pass is split
  pub splits : (seat : ℕ) (view : View V S E P) → view.lives ≡ true → view.found ≡ None
      → view.asked < view.known.room
      → Splits (IsKept m) seat view (left_view view) (right_view m.unused view)
  splits seat view lives lacks less s kept at =
      let left = left_view view in
      let right = right_view m.unused view in
      let there = frames-at s.views seat view at in
      let frames = frames-split s.views seat left right in
      record {
        owner = split_owner kept.owner (frames_of s.views) seat (frame_of view) view.asked
            there lives kept.dealt less;
        value = kept.value;
        dealt = subst (IsDealt (split_owner kept.owner (frames_of s.views) seat (frame_of view)
            view.asked there lives kept.dealt less)) (sym frames)
            (IsDealt-split kept.owner (frames_of s.views) seat (frame_of view) view.asked there lives
            kept.dealt less);
        tells = each-push (set s.views seat left) right
            (λ _ view. view.lives ≡ true → Tells m view.known kept.value)
            (each-set s.views seat left (λ _ view. view.lives ≡ true → Tells m view.known kept.value)
            (λ other view _ at. kept.tells other view at)
            (λ _. Tells-split m view.known view.asked kept.value (kept.tells seat view at lives)))
            (λ _. Tells-split_off m view.known view.asked kept.value less
            (kept.tells seat view at lives));
        covered = λ number. subst (λ frames. SomePass frames (λ frame. HasNumber frame number)
            ⊎ IsUnused m kept.value number) (sym frames)
            (⊎_elim (λ pass. inl (given-split kept.owner (frames_of s.views) seat (frame_of view)
            view.asked there lives kept.dealt less number pass)) inr (kept.covered number));
        place = Placed-push m (with_views s (set s.views seat left)) kept.value right refl
            (Placed-set m s kept.value seat view left at lacks refl kept.place);
      }

  -- a pass is joined to another
  pub joins : (seat : ℕ) (view : View V S E P) (other : ℕ) (gone : View V S E P)
      → view.lives ≡ true → view.found ≡ None → gone.lives ≡ true → gone.found ≡ None
      → gone.known.parent ≡ Some view.known.number → gone.known.to_join ≡ 0
      → Joins (IsKept m) seat view other gone (joined_view view gone) (spent_view m.unused)
  joins seat view other gone lives lacks gone_lives gone_lacks parent none_left s kept at apart also =
      let both = joined_view view gone in
      let ended = spent_view m.unused in
      let gone_at = sym (set_else s.views seat other both apart) ∙ also in
      let there = frames-at s.views seat view at in
      let gone_there = frames-at s.views other gone gone_at in
      let frames : frames_of (set (set s.views seat both) other ended)
      ≡ join_frames kept.owner (frames_of s.views) seat other (frame_of view) (frame_of gone)
      there gone_there apart lives gone_lives kept.dealt parent none_left =
      frames-join s.views seat other both ended
      ∙ ap (λ frame. set (set (frames_of s.views) seat frame) other (frame_of ended))
      (frame-joined view gone) in
      record {
        owner = join_owner kept.owner (frames_of s.views) seat other (frame_of view) (frame_of gone)
            there gone_there apart lives gone_lives kept.dealt parent none_left;
        value = kept.value;
        dealt = subst (IsDealt (join_owner kept.owner (frames_of s.views) seat other (frame_of view)
            (frame_of gone) there gone_there apart lives gone_lives kept.dealt parent none_left))
            (sym frames)
            (IsDealt-join kept.owner (frames_of s.views) seat other (frame_of view) (frame_of gone)
            there gone_there apart lives gone_lives kept.dealt parent none_left);
        tells = each-set (set s.views seat both) other ended
            (λ _ view. view.lives ≡ true → Tells m view.known kept.value)
            (λ place later _. each-set s.views seat both
            (λ _ later. later.lives ≡ true → Tells m later.known kept.value)
            (λ place before _ at. kept.tells place before at)
            (λ _. Tells-join m view.known gone.known kept.value (kept.tells seat view at lives)
            (kept.tells other gone gone_at gone_lives)) place later)
            (λ living. absurd (true≢false (sym living)));
        covered = λ number. subst (λ frames. SomePass frames (λ frame. HasNumber frame number)
            ⊎ IsUnused m kept.value number) (sym frames)
            (⊎_elim (λ pass. inl (given-join kept.owner (frames_of s.views) seat other (frame_of view)
            (frame_of gone) there gone_there apart lives gone_lives kept.dealt parent none_left
            number pass)) inr (kept.covered number));
        place = Placed-set m (with_views s (set s.views seat both)) kept.value other gone ended also
            gone_lacks refl (Placed-set m s kept.value seat view both at lacks refl kept.place);
      }

module _ {V S E P : Type 0} (m : Meaning V S E P) (seat : ℕ) (view : View V S E P)
    (lives : view.lives ≡ true) (lacks : view.found ≡ None) (first : view.known.number ≡ 0)
    (none_left : view.known.to_join ≡ 0) (s : State (Option V) (View V S E P)) (kept : IsKept m s)
    (at : get_elem? s.views seat ≡ some view) where
  -- each pass that lives is the first
  only_pass : (place : ℕ) (frame : Frame) → get_elem? (frames_of s.views) place ≡ some frame
      → frame.lives ≡ true → place ≡ seat
  only_pass = alone kept.owner (frames_of s.views) seat (frame_of view)
      (frames-at s.views seat view at) lives kept.dealt first none_left

  -- so nobody has the turn
  not_taken : IsTaken m s kept.value → ⊥
  not_taken taken =
      let here = only_pass taken.holder (frame_of taken.view)
      (frames-at s.views taken.holder taken.view taken.at) taken.lives in
      found-apart kept.value taken.view.found view.found taken.found lacks
      (ap (λ (view : View V S E P). view.found) (at-same s.views seat taken.view view
      (subst (λ place. get_elem? s.views place ≡ some taken.view) here taken.at) at))

  -- and each number that was given is of the first pass
  given_here : (number : ℕ) → SomePass (frames_of s.views) (λ frame. HasNumber frame number)
      → HasNumber (frame_of view) number
  given_here number pass = subst (λ (frame : Frame). HasNumber frame number)
      (at-same (frames_of s.views) seat pass.frame (frame_of view)
      (subst (λ place. get_elem? (frames_of s.views) place ≡ some pass.frame)
      (only_pass pass.seat pass.frame pass.at pass.lives) pass.at)
      (frames-at s.views seat view at))
      pass.fact

  pub tells_all : TellsAll m view.known kept.value
  tells_all = record {
    told = kept.tells seat view at lives;
    others = λ number. ⊎_elim
        (λ pass. ⊎_elim inl (λ among. inr (inl among)) (given_here number pass))
        (λ unused. inr (inr unused)) (kept.covered number);
  }

  pub comes_home : get_elem? s.homes 0 ≡ some (some (Some kept.value))
  comes_home = ⊎_elim (λ free. ap (λ homes. get_elem? homes 0) free.homes)
      (λ taken. absurd (not_taken taken)) kept.place

module _ {V S E P : Type 0} (m : Meaning V S E P) where
  -- the table is closed by the first pass, with no other left
  pub closes : (seat : ℕ) (view : View V S E P) (words : List ℕ) (slots : List (Option V))
      → view.lives ≡ true → view.found ≡ None → view.known.number ≡ 0 → view.known.to_join ≡ 0
      → Final (Seen (IsKept m) seat view) words slots
      → (value : V) × (get_elem? slots 0 ≡ some (Some value)) × TellsAll m view.known value
  closes seat view words slots lives lacks first none_left final =
      let s = final.0 in
      let kept = final.1.0 in
      let at = final.1.1 in (
        kept.value,
        final.4 0 (Some kept.value)
            (comes_home m seat view lives lacks first none_left s kept at),
        tells_all m seat view lives lacks first none_left s kept at,
      )
