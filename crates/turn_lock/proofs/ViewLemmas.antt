-- What of the rule stays if the views of seats change.
use Rattle.std.proofs.Common.{ℕ, ◌≡◌, ◌≢◌, ◌∙◌, ◌⊎◌, ⊎_elim, inl, inr, List, [], ◌∷◌, ◌++◌, None, Option, Some, ap, is_some, set, subst, sym, true≢false}
use Rattle.std.proofs.lemmas.List.{map-set}
use mathlib.Core.List.{map-append}
use mathlib.Core.Option.{some}
use lib.ListN.{get_elem?}
use Rattle.atomic_table.specs.Table.{State}
use Rattle.atomic_table.proofs.Lists.{at_longer, at_map, set_again, set_else}
use Rattle.turn_lock.specs.declared.known.View.{View}
use Rattle.turn_lock.specs.Turns.{Meaning}
use Rattle.turn_lock.specs.Rule.{IsFree, IsTaken, frame_of, frames_of}
use Rattle.turn_lock.proofs.ListLemmas.{at-same, each-push, each-set}

-- a pass that has the turn is another than one that has not
pub found-apart : {V : Type 0} (found : V) (one other : Option V) → one ≡ Some found → other ≡ None
    → one ≡ other → ⊥
found-apart found one other has lacks same =
    true≢false (ap is_some (sym has ∙ same ∙ lacks))

module _ {V S E P : Type 0} where
  pub frames-at : (views : List (View V S E P)) (seat : ℕ) (view : View V S E P)
      → get_elem? views seat ≡ some view → get_elem? (frames_of views) seat ≡ some (frame_of view)
  frames-at views seat view at = at_map frame_of views seat view at

  -- frames are as they were after a change that shows in none
  pub frames-same : (views : List (View V S E P)) (seat : ℕ) (old new : View V S E P)
      → get_elem? views seat ≡ some old → frame_of new ≡ frame_of old
      → frames_of (set views seat new) ≡ frames_of views
  frames-same views seat old new at same = map-set frame_of views seat new
      ∙ ap (set (frames_of views) seat) same
      ∙ set_again (frames_of views) seat (frame_of old) (frames-at views seat old at)

  pub frames-split : (views : List (View V S E P)) (seat : ℕ) (left right : View V S E P)
      → frames_of (set views seat left ++ right ∷ [])
      ≡ set (frames_of views) seat (frame_of left) ++ frame_of right ∷ []
  frames-split views seat left right = map-append frame_of (set views seat left) (right ∷ [])
      ∙ ap (λ frames. frames ++ frame_of right ∷ []) (map-set frame_of views seat left)

  pub frames-join : (views : List (View V S E P)) (seat other : ℕ) (both ended : View V S E P)
      → frames_of (set (set views seat both) other ended)
      ≡ set (set (frames_of views) seat (frame_of both)) other (frame_of ended)
  frames-join views seat other both ended = map-set frame_of (set views seat both) other ended
      ∙ ap (λ frames. set frames other (frame_of ended)) (map-set frame_of views seat both)

-- the table with other views
abbrev pub with_views : {T U : Type 0} → State T U → List U → State T U
with_views s views = record { words = s.words; homes = s.homes; views = views }

module _ {V S E P : Type 0} (m : Meaning V S E P) where
  -- the turn is free, or is taken
  abbrev pub Placed : State (Option V) (View V S E P) → V → Type 0
  Placed s value = IsFree m s value ⊎ IsTaken m s value

  module _ (s : State (Option V) (View V S E P)) (value : V) where
    -- the holder of the turn is another seat than one that has it not
    holder-apart : (taken : IsTaken m s value) (seat : ℕ) (view : View V S E P)
        → get_elem? s.views seat ≡ some view → view.found ≡ None → taken.holder ≢ seat
    holder-apart taken seat view at lacks same = found-apart value taken.view.found view.found
        taken.found lacks
        (ap (λ (other : View V S E P). other.found) (at-same s.views seat taken.view view
        (subst (λ place. get_elem? s.views place ≡ some taken.view) same taken.at) at))

    -- the turn is where it was after the view of a seat without it changed
    pub Placed-set : (seat : ℕ) (old new : View V S E P) → get_elem? s.views seat ≡ some old
        → old.found ≡ None → new.found ≡ None
        → Placed s value → Placed (with_views s (set s.views seat new)) value
    Placed-set seat old new at lacked lacks = ⊎_elim
        (λ free. inl record {
          words = free.words;
          homes = free.homes;
          found = each-set s.views seat new (λ _ view. view.found ≡ None)
              (λ other kept _ there. free.found other kept there) lacks;
        })
        (λ taken. inr record {
          words = taken.words;
          homes = taken.homes;
          holder = taken.holder;
          view = taken.view;
          at = set_else s.views seat taken.holder new (holder-apart taken seat old at lacked)
              ∙ taken.at;
          lives = taken.lives;
          found = taken.found;
          others = λ other kept apart there. each-set s.views seat new
              (λ place view. place ≢ taken.holder → view.found ≡ None)
              (λ place view _ at apart. taken.others place view apart at) (λ _. lacks)
              other kept there apart;
        })

    -- the same after a seat came
    pub Placed-push : (new : View V S E P) → new.found ≡ None
        → Placed s value → Placed (with_views s (s.views ++ new ∷ [])) value
    Placed-push new lacks = ⊎_elim
        (λ free. inl record {
          words = free.words;
          homes = free.homes;
          found = each-push s.views new (λ _ view. view.found ≡ None) free.found lacks;
        })
        (λ taken. inr record {
          words = taken.words;
          homes = taken.homes;
          holder = taken.holder;
          view = taken.view;
          at = at_longer s.views (new ∷ []) taken.holder taken.view taken.at;
          lives = taken.lives;
          found = taken.found;
          others = λ other kept apart there. each-push s.views new
              (λ place view. place ≢ taken.holder → view.found ≡ None)
              (λ place view at apart. taken.others place view apart at) (λ _. lacks)
              other kept there apart;
        })
