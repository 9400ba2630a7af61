-- Lists that are cut at their first item that passes a test.
use Rattle.std.proofs.Common.{◌≡◌, ℕ, suc, ◌+◌, List, [], ◌∷◌, ◌++◌, Some, None, Bool}
use Rattle.std.proofs.Common.{true, false, cond, not, refl, ap, subst, length, nat_lt, take, drop}
use Rattle.std.proofs.Common.{arith, tests, lt-ltb, option_map}
use Rattle.std.specs.Prelude.{if◌then◌else◌}
use Rattle.std.proofs.Common.{Bor, Option, map, position}
use Rattle.std.proofs.lemmas.List.{drop-map, take-map}
use Rattle.std.specs.List.{AllByRecursion, position_or_len}
use Rattle.std.proofs.lemmas.Option.{same_Some}
use Rattle.desc_lines.specs.Cuts.{cut_at}
use Rattle.desc_lines.proofs.ListLemmas.{option_map-some}

-- an item in front of the first part
abbrev pub onto_front : {X : Type 0} → X → List X × List X → List X × List X
onto_front first parts = (first ∷ parts.0, parts.1)

-- the parts before and after a place
abbrev pub parts_at : {X : Type 0} → List X → ℕ → List X × List X
parts_at items place = (take place items, drop (place + 1) items)

-- a place is as far within a list with one item more, as the place before it is within the list
nat_lt-suc : (place many : ℕ) → nat_lt (1 + place) (suc many) ≡ nat_lt place many
nat_lt-suc place many = grind (arith, tests)

-- the parts at the next place of a list with one item more
parts_at-suc : {X : Type 0} (first : X) (others : List X) (place : ℕ) (within : Bool)
    → option_map (parts_at (first ∷ others)) (cond within (Some (1 + place)) None)
    ≡ option_map (onto_front first) (option_map (parts_at others) (cond within (Some place) None))
parts_at-suc first others place true =
    let next : 1 + place ≡ suc place = omega arith in
    let after : suc place + 1 ≡ suc (place + 1) = omega arith in
    rw (next, after) refl
parts_at-suc first others place false = refl

-- a list is cut before its first item, or in what follows
pub cut_at-step : {X : Type 0} (is_cut : X → Bool) (first : X) (others : List X)
    → cut_at is_cut (first ∷ others)
    ≡ (if is_cut first then Some ([], others)
    else option_map (onto_front first) (cut_at is_cut others))
cut_at-step {X} is_cut first others =
    by_test (is_cut first) (position_or_len is_cut others) refl
  where
    by_test : (test : Bool) (place : ℕ) → position_or_len is_cut others ≡ place
        → option_map (parts_at (first ∷ others))
        (cond (nat_lt (cond (not test) (1 + place) 0) (length (first ∷ others)))
        (Some (cond (not test) (1 + place) 0)) None)
        ≡ (if test then Some ([], others)
        else option_map (onto_front first) (cut_at is_cut others))
    by_test true place is_place = rw (lt-ltb 0 (suc (length others)) (omega arith)) refl
    by_test false place is_place = rw (nat_lt-suc place (length others), is_place)
        (parts_at-suc first others place (nat_lt place (length others)))

-- two parts with a sign between them are cut there, if nothing before it passes
pub cut_at-joined : {X : Type 0} (is_cut : X → Bool) (front : List X) (sign : X) (back : List X)
    → AllByRecursion (λ item. is_cut item ≡ false) front → is_cut sign ≡ true
    → cut_at is_cut (front ++ sign ∷ back) ≡ Some (front, back)
cut_at-joined is_cut [] sign back none cuts = rw (cut_at-step is_cut sign back, cuts) refl
cut_at-joined is_cut (first ∷ front) sign back none cuts = rw (
  cut_at-step is_cut first (front ++ sign ∷ back),
  none.0,
  cut_at-joined is_cut front sign back none.1 cuts,
) refl

-- a list is two parts with a sign between them, and nothing before it passes
pub record IsCut {X : Type 0} (is_cut : X → Bool) (items front back : List X) : Type 0 where
  pub sign : X
  pub same : front ++ sign ∷ back ≡ items
  pub cuts : is_cut sign ≡ true
  pub none : AllByRecursion (λ item. is_cut item ≡ false) front

-- one more item in front
IsCut-first : {X : Type 0} (is_cut : X → Bool) (first : X) (others front back : List X)
    → is_cut first ≡ false → IsCut is_cut others front back
    → IsCut is_cut (first ∷ others) (first ∷ front) back
IsCut-first is_cut first others front back here deeper = record {
  sign = deeper.sign;
  same = ap (λ items. first ∷ items) deeper.same;
  cuts = deeper.cuts;
  none = (here, deeper.none);
}

-- the parts of a list that is cut
pub cut_at-some : {X : Type 0} (is_cut : X → Bool) (items front back : List X)
    → cut_at is_cut items ≡ Some (front, back) → IsCut is_cut items front back
cut_at-some is_cut [] front back cut = absurd cc
cut_at-some {X} is_cut (first ∷ others) front back cut =
    by_test (is_cut first) refl (λ front back cut. cut_at-some is_cut others front back cut)
    (rw (cut_at-step is_cut first others) at cut)
  where
    by_test : (test : Bool) → is_cut first ≡ test
        → ((front back : List X) → cut_at is_cut others ≡ Some (front, back)
        → IsCut is_cut others front back)
        → (if test then Some ([], others)
        else option_map (onto_front first) (cut_at is_cut others)) ≡ Some (front, back)
        → IsCut is_cut (first ∷ others) front back
    by_test true here deeper cut = subst (λ (parts : List X × List X).
        IsCut is_cut (first ∷ others) parts.0 parts.1) (same_Some _ _ cut)
        (record { sign = first; same = refl; cuts = here; none = tt })
    by_test false here deeper cut = option_map-some _ (cut_at is_cut others) _ cut
        (λ parts there made. subst (λ (parts : List X × List X).
        IsCut is_cut (first ∷ others) parts.0 parts.1) made
        (IsCut-first is_cut first others _ _ here (deeper parts.0 parts.1 there)))

-- the first item that passes is at the place of the first one whose image does
position_or_len-map : {X Y : Type 0} (f : X → Y) (is_cut : Y → Bool) (items : List X)
    → position_or_len is_cut (map f items) ≡ position_or_len (λ item. is_cut (f item)) items
position_or_len-map f is_cut [] = refl
position_or_len-map f is_cut (first ∷ others) =
    ap (λ place. cond (not (is_cut (f first))) (1 + place) 0) (position_or_len-map f is_cut others)

length-map : {X Y : Type 0} (f : X → Y) (items : List X) → length (map f items) ≡ length items
length-map f [] = refl
length-map f (first ∷ others) = ap suc (length-map f others)

-- a list of images is cut where the list is
cut_at-map : {X Y : Type 0} (f : X → Y) (is_cut : Y → Bool) (items : List X)
    → cut_at is_cut (map f items)
    ≡ option_map (λ place. (map f (take place items), map f (drop (place + 1) items)))
    (position (λ item. is_cut (f item)) items)
cut_at-map {Y = Y} f is_cut items = rw (position_or_len-map f is_cut items, length-map f items)
    (by_place (position (λ item. is_cut (f item)) items))
  where
    by_place : (found : Option ℕ)
        → option_map {U = List Y × List Y}
        (λ place. (take place (map f items), drop (place + 1) (map f items))) found
        ≡ option_map (λ place. (map f (take place items), map f (drop (place + 1) items))) found
    by_place None = refl
    by_place (Some place) = rw (take-map f place items, drop-map f (place + 1) items) refl

-- so it is with words that are borrowed
pub cut_at_words : (is_cut : List ℕ → Bool) (words : List (Bor (List ℕ)))
    → cut_at is_cut (map (λ word. word.now) words)
    ≡ option_map (λ place. (
      map (λ word. word.now) (take place words),
      map (λ word. word.now) (drop (place + 1) words),
    ))
    (position (λ word. is_cut word.now) words)
cut_at_words is_cut words = cut_at-map (λ word. word.now) is_cut words
