-- Beginnings of logs, the entries under a number, and what only grows.
use Rattle.std.proofs.Common.{ℕ, ◌≡◌, ◌≢◌, ◌∙◌, ◌≤◌, ◌⊎◌, ⊎_elim, ◌==◌, Bool, true, false, List, [], ◌∷◌, ◌++◌, None, Option, Some, ap, append-nil, append_assoc, arith, drop, eq-eqb, get_or, if◌then◌else◌, length, length-append, nat_lt, ne_eqb, refl, subst, sym}
use Rattle.std.proofs.lemmas.Bool.Decides.{nat_tests}
use mathlib.Core.List.{IsPrefix}
use native.Mathlib.Nat.{max-le}
use Rattle.turn_lock.specs.declared.known.Growth.{Growth}
use Rattle.turn_lock.specs.Turns.{Grew, Stays, entries_of, under}
use Rattle.turn_lock.specs.Passes.{first_told, longer, seen_by_both}

module _ {A : Type 0} where
  pub IsPrefix-self : (log : List A) → IsPrefix log log
  IsPrefix-self log = ([], append-nil log)

  pub IsPrefix-trans : (one two three : List A)
      → IsPrefix one two → IsPrefix two three → IsPrefix one three
  IsPrefix-trans one two three begins goes_on = (
    begins.0 ++ goes_on.0,
    sym (append_assoc one begins.0 goes_on.0)
        ∙ (ap (λ log. log ++ goes_on.0) begins.1 ∙ goes_on.1),
  )

  -- of two beginnings of a list the shorter begins the longer
  prefix_of : (one other left right : List A)
      → one ++ left ≡ other ++ right → length one ≤ length other → IsPrefix one other
  prefix_of [] other left right same shorter = (other, refl)
  prefix_of (first ∷ rest) [] left right same shorter = absurd (omega arith)
  prefix_of (first ∷ rest) (head ∷ tail) left right same shorter =
      let below = prefix_of rest tail left right (ap (drop 1) same) (omega arith) in
      let heads : first ≡ head = ap (λ log. get_or log 0 first) same in
      (below.0, λ i. heads i ∷ below.1 i)

  pub IsPrefix-shorter : (one other whole : List A) → IsPrefix one whole → IsPrefix other whole
      → length one ≤ length other → IsPrefix one other
  IsPrefix-shorter one other whole begins also shorter =
      prefix_of one other begins.0 also.0 (begins.1 ∙ sym also.1) shorter

  -- a fact of the longer log, by which of the two is the longer
  pub by_longer : (Fact : List A → Type 0) (one other : List A)
      → (length one ≤ length other → Fact other) → (length other ≤ length one → Fact one)
      → Fact (longer one other)
  by_longer Fact one other if_other if_one = pick (nat_lt (length one) (length other)) refl
    where
      pick : (test : Bool) → nat_lt (length one) (length other) ≡ test
          → Fact (if test then other else one)
      pick true is = if_other (grind (arith, nat_tests, is))
      pick false is = if_one (grind (arith, nat_tests, is))

  pub longer-first : (one other whole : List A) → IsPrefix one whole → IsPrefix other whole
      → IsPrefix one (longer one other)
  longer-first one other whole begins also = by_longer (IsPrefix one) one other
      (IsPrefix-shorter one other whole begins also) (λ _. IsPrefix-self one)

  pub longer-second : (one other whole : List A) → IsPrefix one whole → IsPrefix other whole
      → IsPrefix other (longer one other)
  longer-second one other whole begins also = by_longer (IsPrefix other) one other
      (λ _. IsPrefix-self other) (IsPrefix-shorter other one whole also begins)

  pub longer-whole : (one other whole : List A) → IsPrefix one whole → IsPrefix other whole
      → IsPrefix (longer one other) whole
  longer-whole one other whole begins also =
      by_longer (λ log. IsPrefix log whole) one other (λ _. also) (λ _. begins)

  none_of : (log : List A) → length log ≡ 0 → log ≡ []
  none_of [] empty = refl
  none_of (first ∷ rest) empty = absurd (omega arith)

module _ {E : Type 0} (number : ℕ) where
  -- the entries of two logs, the one after the other
  pub entries_of-append : (log more : List (ℕ × E))
      → entries_of number (log ++ more) ≡ entries_of number log ++ entries_of number more
  entries_of-append [] more = refl
  entries_of-append (entry ∷ rest) more =
      ap (λ later. if entry.0 == number then entry.1 ∷ later else later)
      (entries_of-append rest more) ∙ pick (entry.0 == number) (entries_of number rest)
    where
      pick : (test : Bool) (found : List E)
          → (if test then entry.1 ∷ (found ++ entries_of number more) else found ++ entries_of number more)
          ≡ (if test then entry.1 ∷ found else found) ++ entries_of number more
      pick true found = refl
      pick false found = refl

  -- entries under a number are those of that number
  pub entries_of-under : (entries : List E) → entries_of number (under number entries) ≡ entries
  entries_of-under [] = refl
  entries_of-under (entry ∷ rest) =
      rw (eq-eqb number number refl) (ap (λ later. entry ∷ later) (entries_of-under rest))

  -- and no other number has any of them
  pub entries_of-other : (other : ℕ) (entries : List E) → number ≢ other
      → entries_of number (under other entries) ≡ []
  entries_of-other other [] apart = refl
  entries_of-other other (entry ∷ rest) apart =
      rw (ne_eqb other number (λ same. apart (sym same))) (entries_of-other other rest apart)

  -- a log between two that have the same entries of a number has those too
  pub entries_of-between : (one two three : List (ℕ × E)) (entries : List E)
      → IsPrefix one two → IsPrefix two three → entries_of number one ≡ entries
      → entries_of number three ≡ entries → entries_of number two ≡ entries
  entries_of-between one two three entries begins goes_on first last =
      let two_has : entries_of number two ≡ entries ++ entries_of number begins.0 =
      ap (entries_of number) (sym begins.1) ∙ entries_of-append one begins.0
      ∙ ap (λ log. log ++ entries_of number begins.0) first in
      let three_has : entries_of number three ≡ entries_of number two ++ entries_of number goes_on.0 =
      ap (entries_of number) (sym goes_on.1) ∙ entries_of-append two goes_on.0 in
      let none : entries_of number begins.0 ≡ [] = none_of (entries_of number begins.0)
      (omega (
        arith,
        ap length two_has,
        ap length three_has,
        ap length last,
        length-append entries (entries_of number begins.0),
        length-append (entries_of number two) (entries_of number goes_on.0),
      )) in
      two_has ∙ ap (λ log. entries ++ log) none ∙ append-nil entries

  -- a beginning of a log without entries of a number has none
  pub entries_of-none : (log whole : List (ℕ × E)) → IsPrefix log whole
      → entries_of number whole ≡ [] → entries_of number log ≡ []
  entries_of-none log whole begins none = none_of (entries_of number log)
      (omega (
        arith,
        ap length none,
        ap (λ log. length (entries_of number log)) begins.1,
        ap length (entries_of-append log begins.0),
        length-append (entries_of number log) (entries_of number begins.0),
      ))

module _ {A : Type 0} where
  pub Stays-self : (told : Option A) → Stays told told
  Stays-self None = tt
  Stays-self (Some told) = refl

  pub Stays-trans : (one two three : Option A) → Stays one two → Stays two three → Stays one three
  Stays-trans None two three first second = tt
  Stays-trans (Some told) two three first second = subst (λ told. Stays told three) first second

  -- what stays as it is, or was not told before
  pub Stays-turn : (before after : Option A) → (after ≡ before) ⊎ (before ≡ None)
      → Stays before after
  Stays-turn before after change = ⊎_elim
      (λ same. subst (λ told. Stays before told) (sym same) (Stays-self before))
      (λ none. subst (λ told. Stays told after) (sym none) tt) change

  Stays-both : (one other later : Option A) → Stays one later → Stays other later
      → Stays (first_told one other) later
  Stays-both None other later first second = second
  Stays-both (Some told) other later first second = first

module _ {E : Type 0} where
  pub Grew-self : (growth : Growth E) → Grew growth growth
  Grew-self growth = record {
    log = IsPrefix-self growth.log;
    level = omega arith;
    closer = Stays-self growth.closer;
    failure = Stays-self growth.failure;
  }

  pub Grew-trans : (one two three : Growth E) → Grew one two → Grew two three → Grew one three
  Grew-trans one two three first second = record {
    log = IsPrefix-trans one.log two.log three.log first.log second.log;
    level = omega (arith, first.level, second.level);
    closer = Stays-trans one.closer two.closer three.closer first.closer second.closer;
    failure = Stays-trans one.failure two.failure three.failure first.failure second.failure;
  }

  -- what two passes have seen together grew as each of them did
  pub Grew-both : (one other later : Growth E) → Grew one later → Grew other later
      → Grew (seen_by_both one other) later
  Grew-both one other later first second = record {
    log = longer-whole one.log other.log later.log first.log second.log;
    level = max-le first.level second.level;
    closer = Stays-both one.closer other.closer later.closer first.closer second.closer;
    failure = Stays-both one.failure other.failure later.failure first.failure second.failure;
  }
