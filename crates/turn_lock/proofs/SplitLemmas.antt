-- A split keeps that each pass owns its numbers, and that the passes form a tree.
use Rattle.std.proofs.Common.{ℕ, ◌≡◌, ◌≢◌, ◌∙◌, ◌+◌, ◌-◌, ◌<◌, ◌≤◌, ◌⊎◌, ◌&&◌, ⊎_elim, true, inl, inr, List, [], ◌∷◌, ◌++◌, Some, ap, arith, if◌then◌else◌, is_some, le-leb, length, lt_of_not-le, nat_le, refl, set, subst, sum_by, sym, true≢false, unwrap_or}
use Rattle.std.proofs.lemmas.Bool.Decides.{nat_tests}
use Rattle.std.proofs.lemmas.List.Sums.{sum_by_push}
use mathlib.Core.Option.{some}
use lib.ListN.{get_elem?}
use native.Mathlib.Decide.{dec_le}
use Rattle.atomic_table.proofs.Lists.{at_longer}
use Rattle.turn_lock.specs.Rule.{EachPass, Frame, HasNumber, IsDealt, IsInTree, Owns, SomePass, child_count}
use Rattle.turn_lock.proofs.ListLemmas.{at-same, at-set, sum_by-none}
use Rattle.turn_lock.proofs.SeatLemmas.{EachPass-push, EachPass-set, SomePass-push, SomePass-set, children-set, count_child-apart, count_child-none, count_child-same}

-- the pass that gives away its upper numbers, and the pass that gets them
abbrev pub left_frame : Frame → (room : ℕ) → Frame
left_frame frame room = record frame {
  lives = true;
  room = frame.room - room - 1;
  to_join = frame.to_join + 1;
}

abbrev pub right_frame : Frame → (room : ℕ) → Frame
right_frame frame room = record {
  lives = true;
  number = frame.number + (frame.room - room);
  room = room;
  parent = Some frame.number;
  to_join = 0;
  joined = [];
}

-- who owns a number after a seat got those from one to another
abbrev given : (owner : ℕ → ℕ) (seat from to : ℕ) → ℕ → ℕ
given owner seat from to number =
    if nat_le from number && nat_le number to then seat else owner number

given-within : (owner : ℕ → ℕ) (seat from to number : ℕ) → from ≤ number → number ≤ to
    → given owner seat from to number ≡ seat
given-within owner seat from to number above below =
    rw (le-leb from number above, le-leb number to below) refl

given-outside : (owner : ℕ → ℕ) (seat from to number : ℕ) → (number < from) ⊎ (to < number)
    → given owner seat from to number ≡ owner number
given-outside owner seat from to number outside = ⊎_elim
    (λ below. grind (arith, nat_tests, below)) (λ above. grind (arith, nat_tests, above)) outside

-- a number lies between two others, or outside
pub by_range : (from to number : ℕ)
    → ((from ≤ number) × (number ≤ to)) ⊎ ((number < from) ⊎ (to < number))
by_range from to number = by_lower (dec_le from number) (dec_le number to)
  where
    by_lower : Dec (from ≤ number) → Dec (number ≤ to)
        → ((from ≤ number) × (number ≤ to)) ⊎ ((number < from) ⊎ (to < number))
    by_lower (yes above) (yes below) = inl (above, below)
    by_lower (yes above) (no not_below) = inr (inr (lt_of_not-le not_below))
    by_lower (no not_above) upper = inr (inl (lt_of_not-le not_above))

-- a seat whose numbers stay its own owns them still
pub Owns-stays : (owner later : ℕ → ℕ) (seat : ℕ) (frame : Frame)
    → ((number : ℕ) → owner number ≡ seat → later number ≡ seat)
    → Owns owner seat frame → Owns later seat frame
Owns-stays owner later seat frame stays owns = record {
  own = stays frame.number owns.own;
  joined = λ number among.
      (stays number (owns.joined number among).0, (owns.joined number among).1);
  spare = λ number above below. stays number (owns.spare number above below);
}

-- only one seat owns a number
pub owner-one : (owner : ℕ → ℕ) (number one other : ℕ)
    → owner number ≡ one → owner number ≡ other → one ≡ other
owner-one owner number one other first second = sym first ∙ second

module _ (owner : ℕ → ℕ) (frames : List Frame) (seat : ℕ) (frame : Frame) (room : ℕ)
    (at : get_elem? frames seat ≡ some frame) (lives : frame.lives ≡ true)
    (dealt : IsDealt owner frames) (less : room < frame.room) where
  abbrev from : ℕ
  from = frame.number + (frame.room - room)

  abbrev to : ℕ
  to = frame.number + frame.room

  abbrev kept_frames : List Frame
  kept_frames = set frames seat (left_frame frame room)

  abbrev pub split_frames : List Frame
  split_frames = kept_frames ++ right_frame frame room ∷ []

  abbrev pub split_owner : ℕ → ℕ
  split_owner = given owner (length kept_frames) from to

  mine : Owns owner seat frame
  mine = dealt.owns seat frame at lives

  -- what other seats own stays theirs
  stays : (number other : ℕ) → owner number ≡ other → other ≢ seat → split_owner number ≡ other
  stays number other is apart = ⊎_elim
      (λ within. absurd (apart (owner-one owner number other seat is
      (mine.spare number (omega (arith, within.0)) within.1))))
      (λ outside. given-outside owner (length kept_frames) from to number outside ∙ is)
      (by_range from to number)

  left_owns : Owns split_owner seat (left_frame frame room)
  left_owns = record {
    own = given-outside owner (length kept_frames) from to frame.number (inl (omega arith))
        ∙ mine.own;
    joined = λ number among. (
      given-outside owner (length kept_frames) from to number
          (⊎_elim (λ below. inl (omega arith)) inr (mine.joined number among).1)
          ∙ (mine.joined number among).0,
      ⊎_elim inl (λ above. inr (omega arith)) (mine.joined number among).1,
    );
    spare = λ number above below.
        given-outside owner (length kept_frames) from to number (inl (omega arith))
        ∙ mine.spare number above (omega arith);
  }

  right_owns : Owns split_owner (length kept_frames) (right_frame frame room)
  right_owns = record {
    own = given-within owner (length kept_frames) from to from (omega arith) (omega arith);
    joined = λ number among. absurd among;
    spare = λ number above below.
        given-within owner (length kept_frames) from to number (omega arith) (omega arith);
  }

  split_owns : EachPass split_frames (Owns split_owner)
  split_owns = EachPass-push kept_frames (right_frame frame room) (Owns split_owner)
      (EachPass-set frames seat (left_frame frame room) (Owns split_owner)
      (λ other kept apart there living. Owns-stays owner split_owner other kept
      (λ number is. stays number other is apart) (dealt.owns other kept there living))
      (λ _. left_owns))
      right_owns

  children : (number : ℕ) → sum_by (child_count number) split_frames
      ≡ sum_by (child_count number) frames + child_count number (right_frame frame room)
  children number = sum_by_push (child_count number) kept_frames (right_frame frame room)
      ∙ ap (λ before. before + child_count number (right_frame frame room))
      (children-set number frames seat frame (left_frame frame room) at (sym lives) refl)

  -- a pass that has a number is there after the split
  still : (number : ℕ) → SomePass frames (λ other. other.number ≡ number)
      → SomePass split_frames (λ other. other.number ≡ number)
  still number pass = SomePass-push kept_frames (right_frame frame room)
      (λ other. other.number ≡ number)
      (SomePass-set frames seat frame (left_frame frame room) (λ other. other.number ≡ number)
      at refl (λ same. same) pass)

  -- no pass has a number that is spare
  spare_free : (number : ℕ) → SomePass frames (λ other. other.number ≡ number)
      → frame.number < number → number ≤ to → ⊥
  spare_free number pass above below =
      let owned : owner number ≡ pass.seat =
      ap owner (sym pass.fact) ∙ (dealt.owns pass.seat pass.frame pass.at pass.lives).own in
      let here : pass.seat ≡ seat =
      owner-one owner number pass.seat seat owned (mine.spare number above below) in
      let same : pass.frame ≡ frame = at-same frames seat pass.frame frame
      (subst (λ place. get_elem? frames place ≡ some pass.frame) here pass.at) at in
      omega (arith, ap (λ (other : Frame). other.number) same, pass.fact)

  -- the number of the new pass has no child
  no_children : sum_by (child_count from) frames ≡ 0
  no_children = sum_by-none (child_count from) frames (λ place kept there.
      count_child-none from kept.lives kept.parent (λ parent living is same.
      spare_free from
      (subst (λ number. SomePass frames (λ other. other.number ≡ number)) same
      ((dealt.tree place kept there living).parent parent is).1)
      (omega arith) (omega arith)))

  kept_tree : (other : ℕ) (kept : Frame) → other ≢ seat → get_elem? frames other ≡ some kept
      → kept.lives ≡ true → IsInTree split_frames kept
  kept_tree other kept apart there living =
      let tree = dealt.tree other kept there living in
      let none = count_child-apart kept.number frame.number (λ same. apart
      (owner-one owner kept.number other seat (dealt.owns other kept there living).own
      (ap owner (sym same) ∙ mine.own))) in
      record {
        children = children kept.number ∙ omega (arith, tree.children, none);
        parent = λ parent is. ((tree.parent parent is).0, still parent (tree.parent parent is).1);
        root = tree.root;
      }

  left_tree : IsInTree split_frames (left_frame frame room)
  left_tree =
      let tree = dealt.tree seat frame at lives in
      record {
        children = children frame.number
            ∙ omega (arith, tree.children, count_child-same frame.number frame.number refl);
        parent = λ parent is. ((tree.parent parent is).0, still parent (tree.parent parent is).1);
        root = tree.root;
      }

  right_tree : IsInTree split_frames (right_frame frame room)
  right_tree = record {
    children = children from
        ∙ omega (arith, no_children, count_child-apart from frame.number (λ same. omega arith));
    parent = λ parent is.
        let same : frame.number ≡ parent = ap (λ told. unwrap_or told 0) is in (
          omega (arith, same),
          record {
            seat = seat;
            frame = left_frame frame room;
            at = at_longer kept_frames (right_frame frame room ∷ []) seat (left_frame frame room)
                (at-set frames seat frame (left_frame frame room) at);
            lives = refl;
            fact = same;
          },
        );
    root = λ none. absurd (true≢false (ap is_some none));
  }

  pub IsDealt-split : IsDealt split_owner split_frames
  IsDealt-split = record {
    owns = split_owns;
    tree = EachPass-push kept_frames (right_frame frame room) (λ _. IsInTree split_frames)
        (EachPass-set frames seat (left_frame frame room) (λ _. IsInTree split_frames)
        kept_tree (λ _. left_tree))
        right_tree;
  }

  -- a number that was given is given after the split
  pub given-split : (number : ℕ) → SomePass frames (λ other. HasNumber other number)
      → SomePass split_frames (λ other. HasNumber other number)
  given-split number pass = SomePass-push kept_frames (right_frame frame room)
      (λ other. HasNumber other number)
      (SomePass-set frames seat frame (left_frame frame room) (λ other. HasNumber other number)
      at refl (λ has. has) pass)
