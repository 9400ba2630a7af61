-- What each kind of step on a turn does to a seat, and what it tells it.
use Rattle.std.specs.Prelude.{ℕ, ◌≡◌, ◌≢◌, ◌∷◌, [], None, Option, Some, false, true}
use Rattle.atomic_table.specs.Table.{Me, Step, rest}
use Rattle.turn_lock.specs.declared.known.Known.{Known}
use Rattle.turn_lock.specs.declared.known.View.{View}
use Rattle.turn_lock.specs.Turns.{Meaning}
use Rattle.turn_lock.specs.Passes.{Tells, after_join, after_split, after_turn, first_known, split_off}

module _ {V S E P : Type 0} where
  -- the view of a pass between two turns
  abbrev pub resting : Known S E P → View V S E P
  resting known = record { known = known; lives = true; asked = 0; found = None }

  -- the view of a pass that has the turn, in which it found the value
  abbrev pub holding : Known S E P → V → View V S E P
  holding known value = record { known = known; lives = true; asked = 0; found = Some value }

  -- the view of a pass whose next split gives away so much room
  abbrev pub asking : Known S E P → (room : ℕ) → View V S E P
  asking known room = record { known = known; lives = true; asked = room; found = None }

  -- the views of the two passes of a split
  abbrev pub left_view : View V S E P → View V S E P
  left_view view = resting (after_split view.known view.asked)

  abbrev pub right_view : (unused : P) → View V S E P → View V S E P
  right_view unused view = resting (split_off unused view.known view.asked)

  -- the view of a pass to which another was joined
  abbrev pub joined_view : View V S E P → View V S E P → View V S E P
  joined_view view other = resting (after_join view.known other.known)

  -- the view of a seat whose pass was joined
  abbrev pub spent_view : (unused : P) → View V S E P
  spent_view unused = record {
    known = record {
      number = 0;
      room = 0;
      parent = None;
      to_join = 0;
      start = None;
      seen = record { log = []; level = 0; closer = None; failure = None };
      own = record { entries = []; part = unused };
      joined = [];
    };
    lives = false;
    asked = 0;
    found = None;
  }

  -- the room of the next split was set down
  abbrev pub Asks : Step (Option V) → Me (Option V) (View V S E P) → ℕ
      → Me (Option V) (View V S E P) → Type 0
  Asks st before found after = after ≡ (asking before.0.known st.first, before.1)

module _ {V S E P : Type 0} (m : Meaning V S E P) where
  -- the turn was free at the number expected, and is taken with the value; or nothing changed
  abbrev pub Tries : Step (Option V) → Me (Option V) (View V S E P) → ℕ
      → Me (Option V) (View V S E P) → Type 0
  Tries st before found after =
      (found ≡ st.first → ((value : V) × (after ≡ (holding before.0.known value, (0, Some value) ∷ before.1))
      × Tells m before.0.known value))
      × (found ≢ st.first → after ≡ before)

  -- the turn was taken with the value, whose slot is empty now; or the seat is as it was
  abbrev pub Attempts : Me (Option V) (View V S E P) → (taken : Option V)
      → Me (Option V) (View V S E P) → Type 0
  Attempts before None after = after ≡ before
  Attempts before (Some value) after =
      (after ≡ (holding before.0.known value, (0, None) ∷ before.1)) × Tells m before.0.known value

  -- the turn was freed, with the value at home
  abbrev pub Frees : Step (Option V) → Me (Option V) (View V S E P) → ℕ
      → Me (Option V) (View V S E P) → Type 0
  Frees st before found after = (value : V) × (before.1 ≡ (0, Some value) ∷ rest before.1)
      × (after ≡ (resting (after_turn m before.0.known value), rest before.1))

  abbrev pub first_view : V → View V S E P
  first_view value = resting (first_known m value)

module _ {V S E P : Type 0} where
  -- the seat has no slot, and its pass is between two turns
  pub record IsResting (me : Me (Option V) (View V S E P)) : Type 0 where
    pub slots : me.1 ≡ []
    pub view : me.0 ≡ resting me.0.known

  -- the seat has the slot, which is empty, and its pass has the turn
  pub record IsHolding (me : Me (Option V) (View V S E P)) : Type 0 where
    pub slots : me.1 ≡ (0, None) ∷ []
    pub lives : me.0.lives ≡ true
    pub asked : me.0.asked ≡ 0
