-- A join keeps that each pass owns its numbers, and that the passes form a tree. With no child left
-- the pass of number 0 is the only one.
use Rattle.std.proofs.Common.{ℕ, zero, suc, ◌≡◌, ◌≢◌, ◌∙◌, ◌+◌, ◌-◌, ◌<◌, ◌≤◌, ◌==◌, ⊎_elim, true, false, inl, inr, List, [], ◌∷◌, ◌++◌, None, Option, Some, ap, arith, eq-eqb, eq-or-lt_of_le, if◌then◌else◌, ne_eqb, refl, set, subst, sum_by, sym, true≢false}
use mathlib.Core.Logic.{dite}
use mathlib.Core.Option.{some}
use lib.ListN.{get_elem?}
use native.Mathlib.Decide.{ℕ_discrete}
use Rattle.atomic_table.proofs.Lists.{set_else}
use Rattle.turn_lock.specs.Passes.{IsIn}
use Rattle.turn_lock.specs.Rule.{EachPass, Frame, HasNumber, IsDealt, IsInTree, IsOutside, Owns, SomePass, child_count, count_child}
use Rattle.turn_lock.proofs.ListLemmas.{IsIn-append, IsIn-left, IsIn-right, at-same, at-set, sum_by-at, sum_by-le}
use Rattle.turn_lock.proofs.SeatLemmas.{EachPass-set, SomePass-end, SomePass-set, children-set, count_child-apart, count_child-same}
use Rattle.turn_lock.proofs.SplitLemmas.{Owns-stays, by_range, owner-one}

-- the pass to which another was joined, and what is left at the seat of that other
abbrev pub joined_frame : Frame → Frame → Frame
joined_frame frame gone = record frame {
  lives = true;
  to_join = frame.to_join - 1;
  joined = frame.joined ++ gone.number ∷ gone.joined;
}

abbrev pub ended_frame : Frame
ended_frame = record {
  lives = false;
  number = 0;
  room = 0;
  parent = None;
  to_join = 0;
  joined = [];
}

-- who owns a number after a seat got all of another
abbrev merged : (owner : ℕ → ℕ) (gone seat : ℕ) → ℕ → ℕ
merged owner gone seat number = if owner number == gone then seat else owner number

merged-moved : (owner : ℕ → ℕ) (gone seat number : ℕ) → owner number ≡ gone
    → merged owner gone seat number ≡ seat
merged-moved owner gone seat number is = rw (eq-eqb (owner number) gone is) refl

merged-stays : (owner : ℕ → ℕ) (gone seat number other : ℕ) → owner number ≡ other
    → other ≢ gone → merged owner gone seat number ≡ other
merged-stays owner gone seat number other is apart =
    rw (ne_eqb (owner number) gone (λ same. apart (sym is ∙ same))) is

-- a number of another seat lies outside those of a pass
pub outside-other : (owner : ℕ → ℕ) (seat other number : ℕ) (frame : Frame)
    → Owns owner seat frame → owner number ≡ other → seat ≢ other → IsOutside frame number
outside-other owner seat other number frame owns is apart = ⊎_elim
    (λ within. absurd (apart (owner-one owner number seat other (inside within.0 within.1) is)))
    (λ outside. outside) (by_range frame.number (frame.number + frame.room) number)
  where
    inside : frame.number ≤ number → number ≤ frame.number + frame.room → owner number ≡ seat
    inside above below = ⊎_elim (λ same. ap owner (sym same) ∙ owns.own)
        (λ later. owns.spare number later below) (eq-or-lt_of_le above)

module _ (owner : ℕ → ℕ) (frames : List Frame) (seat other : ℕ) (frame gone : Frame)
    (at : get_elem? frames seat ≡ some frame) (gone_at : get_elem? frames other ≡ some gone)
    (apart : other ≢ seat) (lives : frame.lives ≡ true) (gone_lives : gone.lives ≡ true)
    (dealt : IsDealt owner frames) (parent : gone.parent ≡ Some frame.number)
    (none_left : gone.to_join ≡ 0) where
  abbrev both : Frame
  both = joined_frame frame gone

  abbrev kept_frames : List Frame
  kept_frames = set frames seat both

  abbrev pub join_frames : List Frame
  join_frames = set kept_frames other ended_frame

  abbrev pub join_owner : ℕ → ℕ
  join_owner = merged owner other seat

  mine : Owns owner seat frame
  mine = dealt.owns seat frame at lives

  theirs : Owns owner other gone
  theirs = dealt.owns other gone gone_at gone_lives

  gone_there : get_elem? kept_frames other ≡ some gone
  gone_there = set_else frames seat other both apart ∙ gone_at

  -- each pass after the join: those besides the two, and the one that is left
  EachPass-join : (Fact : ℕ → Frame → Type 0)
      → ((place : ℕ) (kept : Frame) → place ≢ seat → place ≢ other
      → get_elem? frames place ≡ some kept → kept.lives ≡ true → Fact place kept)
      → Fact seat both → EachPass join_frames Fact
  EachPass-join Fact others here = EachPass-set kept_frames other ended_frame Fact
      (λ place kept not_other there living.
      EachPass-set frames seat both (λ place kept. place ≢ other → Fact place kept)
      (λ place kept not_seat there living not_other.
      others place kept not_seat not_other there living)
      (λ _ _. here) place kept there living not_other)
      (λ living. absurd (true≢false (sym living)))

  -- a number that the other pass had lies outside those of the pass that is left
  moved : (number : ℕ) → owner number ≡ other → (join_owner number ≡ seat) × IsOutside both number
  moved number is = (
    merged-moved owner other seat number is,
    outside-other owner seat other number frame mine is (λ same. apart (sym same)),
  )

  both_joined : (number : ℕ) → IsIn number both.joined
      → (join_owner number ≡ seat) × IsOutside both number
  both_joined number among = ⊎_elim
      (λ left. (
        merged-stays owner other seat number seat (mine.joined number left).0
            (λ same. apart (sym same)),
        (mine.joined number left).1,
      ))
      (λ right. moved number (⊎_elim (λ same. ap owner same ∙ theirs.own)
      (λ later. (theirs.joined number later).0) right))
      (IsIn-append number frame.joined (gone.number ∷ gone.joined) among)

  both_owns : Owns join_owner seat both
  both_owns = record {
    own = merged-stays owner other seat frame.number seat mine.own (λ same. apart (sym same));
    joined = both_joined;
    spare = λ number above below. merged-stays owner other seat number seat
        (mine.spare number above below) (λ same. apart (sym same));
  }

  join_owns : EachPass join_frames (Owns join_owner)
  join_owns = EachPass-join (Owns join_owner)
      (λ place kept not_seat not_other there living. Owns-stays owner join_owner place kept
      (λ number is. merged-stays owner other seat number place is not_other)
      (dealt.owns place kept there living))
      both_owns

  -- the joined pass was a child
  gone_child : (number : ℕ) → child_count number gone ≡ count_child number true (Some frame.number)
  gone_child number = λ i. count_child number (gone_lives i) (parent i)

  children : (number : ℕ) → sum_by (child_count number) join_frames + child_count number gone
      ≡ sum_by (child_count number) frames
  children number =
      let change = sum_by-at (child_count number) kept_frames other gone ended_frame gone_there in
      let same = children-set number frames seat frame both at (sym lives) refl in
      omega (arith, change, same)

  -- the joined pass has no child
  not_parent : (place : ℕ) (kept : Frame) (number : ℕ) → get_elem? frames place ≡ some kept
      → kept.lives ≡ true → kept.parent ≡ Some number → number ≢ gone.number
  not_parent place kept number there living is same =
      let counted : child_count gone.number kept ≡ 1 =
      (λ i. count_child gone.number (living i) (is i))
      ∙ count_child-same gone.number number same in
      let most = sum_by-le (child_count gone.number) frames place kept there in
      omega (arith, counted, most, (dealt.tree other gone gone_at gone_lives).children, none_left)

  -- a pass that has a number other than that of the joined one is there after the join
  still : (number : ℕ) → number ≢ gone.number
      → SomePass frames (λ other. other.number ≡ number)
      → SomePass join_frames (λ other. other.number ≡ number)
  still number not_gone pass =
      SomePass-end kept_frames other gone ended_frame (λ other. other.number ≡ number) gone_there
      (λ same. not_gone (sym same))
      (SomePass-set frames seat frame both (λ other. other.number ≡ number) at refl
      (λ same. same) pass)

  kept_parent : (place : ℕ) (kept : Frame) → get_elem? frames place ≡ some kept
      → kept.lives ≡ true → (number : ℕ) → kept.parent ≡ Some number
      → (number < kept.number) × SomePass join_frames (λ other. other.number ≡ number)
  kept_parent place kept there living number is =
      let above = (dealt.tree place kept there living).parent number is in
      (above.0, still number (not_parent place kept number there living is) above.1)

  kept_tree : (place : ℕ) (kept : Frame) → place ≢ seat → place ≢ other
      → get_elem? frames place ≡ some kept → kept.lives ≡ true → IsInTree join_frames kept
  kept_tree place kept not_seat not_other there living =
      let tree = dealt.tree place kept there living in
      let none = count_child-apart kept.number frame.number (λ same. not_seat
      (owner-one owner kept.number place seat (dealt.owns place kept there living).own
      (ap owner (sym same) ∙ mine.own))) in
      record {
        children = omega (arith, children kept.number, gone_child kept.number, none, tree.children);
        parent = kept_parent place kept there living;
        root = tree.root;
      }

  both_tree : IsInTree join_frames both
  both_tree =
      let tree = dealt.tree seat frame at lives in
      record {
        children = omega (
          arith,
          children frame.number,
          gone_child frame.number,
          count_child-same frame.number frame.number refl,
          tree.children,
        );
        parent = kept_parent seat frame at lives;
        root = tree.root;
      }

  pub IsDealt-join : IsDealt join_owner join_frames
  IsDealt-join = record {
    owns = join_owns;
    tree = EachPass-join (λ _. IsInTree join_frames) kept_tree both_tree;
  }

  -- a number that the joined pass had
  gone_given : (number : ℕ) → HasNumber gone number
      → SomePass join_frames (λ other. HasNumber other number)
  gone_given number has = record {
    seat = seat;
    frame = both;
    at = set_else kept_frames other seat ended_frame (λ same. apart (sym same))
        ∙ at-set frames seat frame both at;
    lives = refl;
    fact = inr (IsIn-right number frame.joined (gone.number ∷ gone.joined) has);
  }

  -- the same of a pass after the one that is left has all numbers
  given-end : (number : ℕ) → SomePass kept_frames (λ other. HasNumber other number)
      → SomePass join_frames (λ other. HasNumber other number)
  given-end number pass = dite (ℕ_discrete pass.seat other)
      (λ same. gone_given number (subst (λ (kept : Frame). HasNumber kept number)
      (at-same kept_frames other pass.frame gone
      (subst (λ place. get_elem? kept_frames place ≡ some pass.frame) same pass.at)
      gone_there)
      pass.fact))
      (λ not_other. record {
        seat = pass.seat;
        frame = pass.frame;
        at = set_else kept_frames other pass.seat ended_frame not_other ∙ pass.at;
        lives = pass.lives;
        fact = pass.fact;
      })

  -- a number that was given is given after the join
  pub given-join : (number : ℕ) → SomePass frames (λ other. HasNumber other number)
      → SomePass join_frames (λ other. HasNumber other number)
  given-join number pass = given-end number
      (SomePass-set frames seat frame both (λ other. HasNumber other number) at refl
      (⊎_elim inl (λ among. inr (IsIn-left number frame.joined (gone.number ∷ gone.joined) among)))
      pass)

module _ (owner : ℕ → ℕ) (frames : List Frame) (seat : ℕ) (frame : Frame)
    (at : get_elem? frames seat ≡ some frame) (lives : frame.lives ≡ true)
    (dealt : IsDealt owner frames) (first : frame.number ≡ 0) (none_left : frame.to_join ≡ 0) where
  -- a pass whose parent is the first one is a child that is left
  no_child : (place : ℕ) (kept : Frame) (number : ℕ) → get_elem? frames place ≡ some kept
      → kept.lives ≡ true → kept.parent ≡ Some number → number ≢ frame.number
  no_child place kept number there living is same =
      let counted : child_count frame.number kept ≡ 1 =
      (λ i. count_child frame.number (living i) (is i))
      ∙ count_child-same frame.number number same in
      let most = sum_by-le (child_count frame.number) frames place kept there in
      omega (arith, counted, most, (dealt.tree seat frame at lives).children, none_left)

  -- a pass at another seat has no place in the tree, if none with a smaller number has
  no_place : (place : ℕ) (kept : Frame) → get_elem? frames place ≡ some kept
      → kept.lives ≡ true → place ≢ seat
      → ((below : ℕ) (lower : Frame) → get_elem? frames below ≡ some lower
      → lower.lives ≡ true → lower.number < kept.number → below ≡ seat)
      → (parent : Option ℕ) → kept.parent ≡ parent → ⊥
  no_place place kept there living apart alone None is =
      apart (owner-one owner kept.number place seat (dealt.owns place kept there living).own
      (ap owner ((dealt.tree place kept there living).root is ∙ sym first)
      ∙ (dealt.owns seat frame at lives).own))
  no_place place kept there living apart alone (Some number) is =
      let tree = (dealt.tree place kept there living).parent number is in
      let pass = tree.1 in
      let here = alone pass.seat pass.frame pass.at pass.lives (omega (arith, tree.0, pass.fact)) in
      let same = at-same frames seat pass.frame frame
      (subst (λ place. get_elem? frames place ≡ some pass.frame) here pass.at) at in
      no_child place kept number there living is
      (sym pass.fact ∙ ap (λ (other : Frame). other.number) same)

  alone_below : (limit : ℕ) (place : ℕ) (kept : Frame) → get_elem? frames place ≡ some kept
      → kept.lives ≡ true → kept.number < limit → place ≡ seat
  alone_below zero place kept there living below = absurd (omega arith)
  alone_below (suc limit) place kept there living below = dite (ℕ_discrete place seat)
      (λ same. same)
      (λ apart. absurd (no_place place kept there living apart
      (λ lower_place lower lower_there lower_lives less. alone_below limit lower_place lower
      lower_there lower_lives (omega arith))
      kept.parent refl))

  -- each pass that lives is the first one
  pub alone : (place : ℕ) (kept : Frame) → get_elem? frames place ≡ some kept
      → kept.lives ≡ true → place ≡ seat
  alone place kept there living =
      alone_below (suc kept.number) place kept there living (omega arith)
