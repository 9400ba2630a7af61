-- What a pass tells of the value, and what becomes of it by a turn, a split and a join.
use Rattle.std.specs.Prelude.{ℕ, ◌≡◌, ◌+◌, ◌-◌, ◌≤◌, ◌<◌, ◌⊎◌, ◌++◌, ◌∷◌, [], List, None, Option, Some, if◌then◌else◌, length, map, max, nat_lt}
use Rattle.atomic_table.specs.declared.shared.Seat.{Seat}
use Rattle.turn_lock.specs.declared.known.Growth.{Growth}
use Rattle.turn_lock.specs.declared.known.Known.{Known}
use Rattle.turn_lock.specs.declared.known.Share.{Share}
use Rattle.turn_lock.specs.declared.known.View.{View}
use Rattle.turn_lock.specs.Turns.{Grew, IsUnused, Meaning, TakesTurn, entries_of, growth_of, share_of}

-- the item stands in the list
abbrev pub IsIn : {A : Type 0} → A → List A → Type 0
IsIn item [] = ⊥
IsIn item (first ∷ rest) = (item ≡ first) ⊎ IsIn item rest

-- the numbers that were joined
abbrev pub numbers_of : {A : Type 0} → List (ℕ × A) → List ℕ
numbers_of joined = map (λ other. other.0) joined

-- the longer of two logs of which one begins the other
abbrev pub longer : {A : Type 0} → List A → List A → List A
longer one other = if nat_lt (length one) (length other) then other else one

-- the first if it was told, and else the second
abbrev pub first_told : {A : Type 0} → Option A → Option A → Option A
first_told None other = other
first_told (Some told) other = Some told

-- what two passes have seen together
abbrev pub seen_by_both : {E : Type 0} → Growth E → Growth E → Growth E
seen_by_both one other = record {
  log = longer one.log other.log;
  level = max one.level other.level;
  closer = first_told one.closer other.closer;
  failure = first_told one.failure other.failure;
}

module _ {V S E P : Type 0} (m : Meaning V S E P) where
  -- a number has the share, and all its entries stand in the log that was seen
  pub record HasShare (value : V) (log : List (ℕ × E)) (given : ℕ × Share E P) : Type 0 where
    pub now : share_of m value given.0 ≡ given.1
    pub seen : entries_of given.0 log ≡ given.1.entries

  -- the value is as the pass tells
  pub record Tells (known : Known S E P) (value : V) : Type 0 where
    pub start : known.start ≡ Some (m.start value)
    pub seen : Grew known.seen (growth_of m value)
    pub own : HasShare value known.seen.log (known.number, known.own)
    pub joined : (other : ℕ × Share E P) → IsIn other known.joined
        → HasShare value known.seen.log other
    pub spare : (number : ℕ) → known.number < number → number ≤ known.number + known.room
        → IsUnused m value number

  -- the value is as the pass tells, and no further number is in use
  pub record TellsAll (known : Known S E P) (value : V) : Type 0 where
    pub told : Tells known value
    pub others : (number : ℕ) → (number ≡ known.number)
        ⊎ IsIn number (numbers_of known.joined) ⊎ IsUnused m value number

  -- what the pass with the number 0 tells of the value that the turn is made with
  abbrev pub first_known : V → Known S E P
  first_known value = record {
    number = 0;
    room = 4294967294;
    parent = None;
    to_join = 0;
    start = Some (m.start value);
    seen = growth_of m value;
    own = share_of m value 0;
    joined = [];
  }

  -- what a pass tells after a turn that left the value
  abbrev pub after_turn : Known S E P → V → Known S E P
  after_turn known value = record known {
    seen = growth_of m value;
    own = share_of m value known.number;
  }

module _ {S E P : Type 0} where
  -- what a pass tells after it gave away the upper numbers: one for a new pass, and so many for its room
  abbrev pub after_split : Known S E P → (room : ℕ) → Known S E P
  after_split known room = record known {
    room = known.room - room - 1;
    to_join = known.to_join + 1;
  }

  -- what the new pass tells
  abbrev pub split_off : (unused : P) → Known S E P → (room : ℕ) → Known S E P
  split_off unused known room = record {
    number = known.number + (known.room - room);
    room = room;
    parent = Some known.number;
    to_join = 0;
    start = known.start;
    seen = known.seen;
    own = record { entries = []; part = unused };
    joined = [];
  }

  -- what a pass tells after another was joined to it
  abbrev pub after_join : Known S E P → Known S E P → Known S E P
  after_join known other = record known {
    to_join = known.to_join - 1;
    seen = seen_by_both known.seen other.seen;
    joined = known.joined ++ (other.number, other.own) ∷ other.joined;
  }

  -- turns were taken, and no pass was split off or joined
  pub record SamePass (before after : Known S E P) : Type 0 where
    pub number : after.number ≡ before.number
    pub room : after.room ≡ before.room
    pub parent : after.parent ≡ before.parent
    pub to_join : after.to_join ≡ before.to_join
    pub start : after.start ≡ before.start
    pub joined : after.joined ≡ before.joined

module _ {T V S E P : Type 0} where
  -- what the pass of a seat tells
  abbrev pub told_by : Seat T (View V S E P) → Known S E P
  told_by seat = seat.me.0.known

  -- what the pass of a seat found, if it has the turn
  abbrev pub found_by : Seat T (View V S E P) → Option V
  found_by seat = seat.me.0.found

  -- the value is one that the turn of the seat's pass may leave
  pub record MayLeave (m : Meaning V S E P) (seat : Seat T (View V S E P)) (value : V) : Type 0 where
    pub before : V
    pub found : found_by seat ≡ Some before
    pub turn : TakesTurn m (told_by seat).number before value
