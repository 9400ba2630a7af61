-- The first delivery that closed up to a tick: found by division, as one more is noted, and for
-- ticks that rise.
use Rattle.std.proofs.Common.{◌≡◌, ℕ, zero, suc, ◌<◌, ◌≤◌, List, [], ◌∷◌, ◌++◌, length}
use Rattle.std.proofs.Common.{◌-◌, get_or, refl, sym, arith, inl, inr}
use Rattle.std.specs.Prelude.{Bool, true, false, Option, Some, None, All, nat_le, nat_lt, is_some}
use Rattle.std.specs.Prelude.{slice_get, option_map, if◌then◌else◌, IfSome, IsSomeAnd}
use Rattle.std.specs.Option.{option_or}
use Rattle.std.specs.List.Sorted.{IsNonDecreasingBy, IsPartitionPoint}
use Rattle.std.proofs.lemmas.Bool.{cases_Bool, false≢true, leb-false, leb-true}
use Rattle.std.proofs.lemmas.Bool.Decides.{nat_tests}
use Rattle.std.proofs.lemmas.List.Elements.{All-cons, All-nil, All-push, All-tail, All-weaker}
use Rattle.std.proofs.lemmas.List.Sorted.{IsNonDecreasingBy-push}
use Rattle.depot_marks.specs.declared.closings.Closing.{Closing}
use Rattle.depot_marks.specs.Closings.{Rises, closes_of, greatest_at, greatest_of}

-- whether a delivery closed not as far as a tick
abbrev pub is_short_of : (end : ℕ) → Closing → Bool
is_short_of end closing = nat_lt closing.closes end

-- the first that closed up to a tick stands after all that did not
pub greatest_at-point : (end : ℕ) (closings : List Closing) (index : ℕ)
    → IsPartitionPoint (λ closing. is_short_of end closing ≡ true)
    (λ closing. is_short_of end closing ≡ false) closings index
    → greatest_at closings end ≡ option_map greatest_of (slice_get closings index)
greatest_at-point end [] index point = refl
greatest_at-point end (closing ∷ later) zero point =
    let short : nat_lt closing.closes end ≡ false = point.1 0 closing (omega arith) (omega arith) in
    let far : nat_le end closing.closes ≡ true = grind (arith, nat_tests) in
    rw far refl
greatest_at-point end (closing ∷ later) (suc index) point =
    let short : nat_lt closing.closes end ≡ true = point.0 0 closing (omega arith) (omega arith) in
    let near : nat_le end closing.closes ≡ false = grind (arith, nat_tests) in
    rw near (greatest_at-point end later index (
      λ place default from within. point.0 (suc place) default (omega arith) (omega arith),
      λ place default from within. point.1 (suc place) default (omega arith) (omega arith),
    ))

-- one that is put at the end is the first if none before closed so far
pub greatest_at-push : (end : ℕ) (closings : List Closing) (last : Closing)
    → greatest_at (closings ++ last ∷ []) end ≡ option_or (greatest_at closings end)
    (if nat_le end last.closes then Some last.greatest else None)
greatest_at-push end [] last = refl
greatest_at-push end (closing ∷ later) last =
    at_first (nat_le end closing.closes) (greatest_at-push end later last)
  where
    added : Option ℕ
    added = if nat_le end last.closes then Some last.greatest else None

    at_first : (far : Bool)
        → greatest_at (later ++ last ∷ []) end ≡ option_or (greatest_at later end) added
        → (if far then Some closing.greatest else greatest_at (later ++ last ∷ []) end)
        ≡ option_or (if far then Some closing.greatest else greatest_at later end) added
    at_first true rest = refl
    at_first false rest = rest

-- what is closed up to a tick is closed up to an earlier one
pub greatest_at-earlier : (closes end : ℕ) (closings : List Closing) → end ≤ closes
    → is_some (greatest_at closings closes) ≡ true → is_some (greatest_at closings end) ≡ true
greatest_at-earlier closes end [] before some = absurd (false≢true some)
greatest_at-earlier closes end (closing ∷ later) before some =
    elim (cases_Bool (nat_le end closing.closes)) [
      | inl far ↦ rw far refl
      | inr near ↦
          let also : nat_le closes closing.closes ≡ false = grind (arith, nat_tests) in
          rw near (greatest_at-earlier closes end later before (rw also at some))
    ]

-- one that closes no further than one before is told already
pub greatest_at-same : (end closes number : ℕ) (closings : List Closing)
    → is_some (greatest_at closings closes) ≡ true
    → greatest_at closings end
    ≡ option_or (greatest_at closings end) (if nat_le end closes then Some number else None)
greatest_at-same end closes number closings some =
    elim (cases_Bool (nat_le end closes)) [
      | inl before ↦ rw before (first (greatest_at closings end)
          (greatest_at-earlier closes end closings (leb-true end closes before) some))
      | inr later ↦ rw later (sym (option_or-none (greatest_at closings end)))
    ]
  where
    first : (found : Option ℕ) → is_some found ≡ true → found ≡ option_or found (Some number)
    first None there = absurd (false≢true there)
    first (Some own) there = refl

    option_or-none : (found : Option ℕ) → option_or found None ≡ found
    option_or-none None = refl
    option_or-none (Some own) = refl

-- if none closed up to a tick, each closed not as far
greatest_at-none : (closes : ℕ) (closings : List Closing)
    → is_some (greatest_at closings closes) ≡ false
    → All (λ (closing : Closing). closing.closes < closes) closings
greatest_at-none closes [] none = All-nil (λ (closing : Closing). closing.closes < closes)
greatest_at-none closes (closing ∷ later) none =
    elim (cases_Bool (nat_le closes closing.closes)) [
      | inl far ↦ absurd (false≢true (sym (rw far at none)))
      | inr near ↦ All-cons (λ (closing : Closing). closing.closes < closes) closing later
          (leb-false closes closing.closes near)
          (greatest_at-none closes later (rw near at none))
    ]

-- the ticks go on rising if one that closes further is put at the end
rising-push : (closings : List Closing) (last : Closing) → IsNonDecreasingBy closes_of closings
    → is_some (greatest_at closings last.closes) ≡ false
    → IsNonDecreasingBy closes_of (closings ++ last ∷ [])
rising-push closings last rising none =
    IsNonDecreasingBy-push closes_of closings last rising (λ default some.
    let below : (get_or closings (length closings - 1) default).closes < last.closes =
    greatest_at-none last.closes closings none (length closings - 1) default (omega arith) in
    omega arith)

-- all of it still holds if the greatest number rises
Rises-raised : (closings : List Closing) (greatest raised : ℕ) → Rises closings greatest
    → greatest ≤ raised → Rises closings raised
Rises-raised closings greatest raised rises up = record {
  closes = rises.closes;
  numbers = rises.numbers;
  within = All-weaker (λ (closing : Closing). closing.greatest ≤ greatest)
      (λ (closing : Closing). closing.greatest ≤ raised) (λ closing below. omega arith) closings
      rises.within;
}

-- and if one that closes further is put at the end, with the greatest number by now
pub Rises-push : (closings : List Closing) (greatest : ℕ) (last : Closing)
    → Rises closings greatest → greatest ≤ last.greatest
    → is_some (greatest_at closings last.closes) ≡ false
    → Rises (closings ++ last ∷ []) last.greatest
Rises-push closings greatest last rises up none = record {
  closes = rising-push closings last rises.closes none;
  numbers = IsNonDecreasingBy-push greatest_of closings last rises.numbers (λ default some.
      let before : (get_or closings (length closings - 1) default).greatest ≤ greatest =
      rises.within (length closings - 1) default (omega arith) in
      omega arith);
  within = All-push (λ (closing : Closing). closing.greatest ≤ last.greatest) closings last
      (Rises-raised closings greatest last.greatest rises up).within (omega arith);
}

-- what is no greater than each number is no greater than the one that is found
greatest_at-least : (number closes : ℕ) (closings : List Closing)
    → All (λ (closing : Closing). number ≤ closing.greatest) closings
    → IfSome (greatest_at closings closes) (λ last. number ≤ last)
greatest_at-least number closes [] least = tt
greatest_at-least number closes (closing ∷ later) least =
    at_first (nat_le closes closing.closes)
    (greatest_at-least number closes later
    (All-tail (λ (closing : Closing). number ≤ closing.greatest) closing later least))
  where
    at_first : (far : Bool) → IfSome (greatest_at later closes) (λ last. number ≤ last)
        → IfSome (if far then Some closing.greatest else greatest_at later closes)
        (λ last. number ≤ last)
    at_first true rest = least 0 closing (omega arith)
    at_first false rest = rest

-- the number that is found for a tick is no greater than the one for a later tick
pub greatest_at-le : (end later last : ℕ) (closings : List Closing)
    → IsNonDecreasingBy greatest_of closings → end ≤ later → greatest_at closings later ≡ Some last
    → IsSomeAnd (greatest_at closings end) (λ number. number ≤ last)
greatest_at-le end later last [] rising before found = absurd cc
greatest_at-le end later last (closing ∷ others) rising before found =
    elim (cases_Bool (nat_le end closing.closes)) [
      | inl far ↦
          let least = greatest_at-least closing.greatest later (closing ∷ others)
          (λ index default within. rising 0 index default (omega arith) within) in
          rw far (rw found at least)
      | inr near ↦
          let also : nat_le later closing.closes ≡ false = grind (arith, nat_tests) in
          rw near (greatest_at-le end later last others
          (λ index next default upto within.
          rising (suc index) (suc next) default (omega arith) (omega arith))
          before (rw also at found))
    ]
