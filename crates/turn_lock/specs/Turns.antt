-- What the value behind a turn tells, and what one turn may change of it.
use Rattle.std.specs.Prelude.{ℕ, ◌≡◌, ◌≢◌, ◌+◌, ◌≤◌, ◌<◌, ◌⊎◌, ◌==◌, ◌++◌, ◌∷◌, [], Bool, List, None, Option, Some, if◌then◌else◌, map, nat_lt, true}
use mathlib.Core.List.{IsPrefix}
use Rattle.turn_lock.specs.declared.known.Growth.{Growth}
use Rattle.turn_lock.specs.declared.known.Share.{Share}

-- the entries of a log under a number, in their order
abbrev pub entries_of : {E : Type 0} → (number : ℕ) → List (ℕ × E) → List E
entries_of number [] = []
entries_of number (entry ∷ rest) =
    if entry.0 == number then entry.1 ∷ entries_of number rest else entries_of number rest

-- entries, each under the number
abbrev pub under : {E : Type 0} → (number : ℕ) → List E → List (ℕ × E)
under number entries = map (λ entry. (number, entry)) entries

-- what was once told stays
abbrev pub Stays : {A : Type 0} → Option A → Option A → Type 0
Stays None after = Unit {0}
Stays (Some told) after = after ≡ Some told

-- later is what a value tells after some more turns
pub record Grew {E : Type 0} (before later : Growth E) : Type 0 where
  pub log : IsPrefix before.log later.log
  pub level : before.level ≤ later.level
  pub closer : Stays before.closer later.closer
  pub failure : Stays before.failure later.failure

-- What the values of a type tell: the start; the log, each entry with its number; the level; the
-- closer; the first failure; and the part of each number. Besides it names the part of a number that
-- was not given, which parts are empty, and how many turns of a part failed.
pub record Meaning (V S E P : Type 0) : Type 0 where
  pub start : V → S
  pub log : V → List (ℕ × E)
  pub level : V → ℕ
  pub closer : V → Option ℕ
  pub failure : V → Option (ℕ × ℕ)
  pub part : V → (number : ℕ) → P
  pub unused : P
  pub is_empty : P → Bool
  pub failed_turns : P → ℕ
  pub unused_is_empty : is_empty unused ≡ true
  pub unused_has_no_failed : failed_turns unused ≡ 0

-- how many turns failed in which the level went from one number to another: one if it rose
abbrev pub failed_by : (before later : ℕ) → ℕ
failed_by before later = if nat_lt before later then 1 else 0

module _ {V S E P : Type 0} (m : Meaning V S E P) where
  -- what of a value only grows
  abbrev pub growth_of : V → Growth E
  growth_of value = record {
    log = m.log value;
    level = m.level value;
    closer = m.closer value;
    failure = m.failure value;
  }

  -- what a value has of a number
  abbrev pub share_of : V → (number : ℕ) → Share E P
  share_of value number = record {
    entries = entries_of number (m.log value);
    part = m.part value number;
  }

  -- the number has no entry, and an unused part
  abbrev pub IsUnused : V → (number : ℕ) → Type 0
  IsUnused value number = share_of value number ≡ record { entries = []; part = m.unused }

  -- no number except 0 is in use
  abbrev pub IsFresh : V → Type 0
  IsFresh value = (number : ℕ) → number ≢ 0 → IsUnused value number

  -- what one turn of the pass with the number may make of a value
  pub record TakesTurn (number : ℕ) (before after : V) : Type 0 where
    pub start : m.start after ≡ m.start before
    pub added : List E
    pub log : m.log after ≡ m.log before ++ under number added
    pub parts : (other : ℕ) → other ≢ number → m.part after other ≡ m.part before other
    pub level : m.level before ≤ m.level after
    pub closer : (m.closer after ≡ m.closer before)
        ⊎ ((m.closer before ≡ None) × (m.closer after ≡ Some number))
    pub failure : (m.failure after ≡ m.failure before)
        ⊎ ((m.failure before ≡ None) × (m.level before < m.level after))
    pub failed : m.failed_turns (m.part after number)
        ≡ m.failed_turns (m.part before number) + failed_by (m.level before) (m.level after)
