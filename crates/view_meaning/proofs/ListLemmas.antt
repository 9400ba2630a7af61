-- Facts on lists of anything, and on runs of numbers, that std does not have.
use Rattle.std.proofs.Common.{◌≡◌, ◌∙◌, ℕ, suc, ◌+◌, ◌<◌, List, [], ◌∷◌, ◌++◌}
use Rattle.std.proofs.Common.{length, take, drop, get_or, map, cond, refl, sym, ap, arith}
use Rattle.std.specs.Prelude.{Bool, true, false, not, ◌&&◌, ◌||◌, ◌==◌, All, flat_map, fold, nat_eq}
use Rattle.std.specs.Prelude.{if◌then◌else◌}
use Rattle.std.specs.List.{AllPairs, filter, list_all, list_any, range_with_len}
use Rattle.std.specs.Cmp.Lexicographic.{pointwise}
use Rattle.std.proofs.Math.Bool.{and-false, and-true}
use Rattle.std.proofs.Math.Seq.{take-append_seam, drop-append_seam}
use Rattle.std.proofs.lemmas.Bool.{or_parts, eq-eqb}
use Rattle.std.proofs.lemmas.List.{length-take, take-append-drop, take-append-le}
use Rattle.std.proofs.lemmas.List.{get_or-map, get_or_append_left, get_or_at}
use Rattle.std.proofs.lemmas.List.{length-append}
use Rattle.std.proofs.lemmas.List.Elements.{All-nil, All-cons, All-head, All-tail, All-map}
use Rattle.std.proofs.lemmas.List.Elements.{All-append, All-same, All-take, All-drop}
use Rattle.std.proofs.lemmas.List.Folds.{list_any-append, list_any_at, list_any_none}
use Rattle.std.proofs.lemmas.List.FromFn.{length-range_with_len, get_or-range_with_len}
use Rattle.std.proofs.lemmas.List.Kept.{AllPairs-cons}
use Rattle.view_meaning.specs.Growth.{BeginsWith}
use Rattle.view_meaning.proofs.BoolLemmas.{not-or}

-- two functions that agree on each element of a list map it alike
pub map-agree : {X Y : Type 0} (f g : X → Y) (xs : List X) → All (λ x. f x ≡ g x) xs
    → map f xs ≡ map g xs
map-agree f g [] agree = refl
map-agree f g (x ∷ xs) agree =
    rw (All-head (λ x. f x ≡ g x) x xs agree)
    (ap (λ rest. g x ∷ rest) (map-agree f g xs (All-tail (λ x. f x ≡ g x) x xs agree)))

-- and join the lists that they give alike
pub flat_map-agree : {X Y : Type 0} (f g : X → List Y) (xs : List X) → All (λ x. f x ≡ g x) xs
    → flat_map f xs ≡ flat_map g xs
flat_map-agree f g [] agree = refl
flat_map-agree f g (x ∷ xs) agree =
    rw (All-head (λ x. f x ≡ g x) x xs agree)
    (ap (λ rest. g x ++ rest) (flat_map-agree f g xs (All-tail (λ x. f x ≡ g x) x xs agree)))

-- two functions that map a list alike agree on each element
pub All-map_agree : {X Y : Type 0} (f g : X → Y) (xs : List X) → map f xs ≡ map g xs
    → All (λ x. f x ≡ g x) xs
All-map_agree f g xs same = λ index default within.
    sym (get_or-map f xs index default (f default) within)
    ∙ ap (λ ys. get_or ys index (f default)) same
    ∙ get_or-map g xs index default (f default) within

-- a function that makes an empty list of each element makes an empty one of all
pub flat_map-none : {X Y : Type 0} (f : X → List Y) (xs : List X) → ((x : X) → f x ≡ [])
    → flat_map f xs ≡ []
flat_map-none f [] none = refl
flat_map-none f (x ∷ xs) none = rw (none x) (flat_map-none f xs none)

-- two tests that agree on each element pass all of them alike
pub list_all-agree : {X : Type 0} (f g : X → Bool) (xs : List X) → All (λ x. f x ≡ g x) xs
    → list_all f xs ≡ list_all g xs
list_all-agree f g [] agree = refl
list_all-agree f g (x ∷ xs) agree =
    rw (All-head (λ x. f x ≡ g x) x xs agree)
    (ap (λ rest. g x && rest) (list_all-agree f g xs (All-tail (λ x. f x ≡ g x) x xs agree)))

-- and find one alike
pub list_any-agree : {X : Type 0} (f g : X → Bool) (xs : List X) → All (λ x. f x ≡ g x) xs
    → list_any f xs ≡ list_any g xs
list_any-agree f g [] agree = refl
list_any-agree f g (x ∷ xs) agree =
    rw (All-head (λ x. f x ≡ g x) x xs agree)
    (ap (λ rest. g x || rest) (list_any-agree f g xs (All-tail (λ x. f x ≡ g x) x xs agree)))

-- a test finds an image if the test of images finds an element
pub list_any-map : {X Y : Type 0} (test : Y → Bool) (f : X → Y) (xs : List X)
    → list_any test (map f xs) ≡ list_any (λ x. test (f x)) xs
list_any-map test f [] = refl
list_any-map test f (x ∷ xs) =
    ap (λ (rest : Bool). test (f x) || rest) (list_any-map test f xs)

-- a test finds an element of joined lists if it finds one of some list
pub list_any-flat_map : {X Y : Type 0} (test : Y → Bool) (f : X → List Y) (xs : List X)
    → list_any test (flat_map f xs) ≡ list_any (λ x. list_any test (f x)) xs
list_any-flat_map test f [] = refl
list_any-flat_map test f (x ∷ xs) =
    list_any-append test (f x) (flat_map f xs)
    ∙ ap (λ (rest : Bool). list_any test (f x) || rest) (list_any-flat_map test f xs)

-- a test that asks something else besides finds an element if that is so
pub list_any-and : {X : Type 0} (test : X → Bool) (also : Bool) (xs : List X)
    → list_any (λ x. test x && also) xs ≡ (list_any test xs && also)
list_any-and test true xs =
    list_any-agree (λ x. test x && true) test xs
    (λ index default _. and-true (test (get_or xs index default)))
    ∙ sym (and-true (list_any test xs))
list_any-and test false xs =
    list_any_none (λ x. test x && false) xs
    (λ index default _. and-false (test (get_or xs index default)))
    ∙ sym (and-false (list_any test xs))

-- what is true of all that is made of each element is true of all that is joined
pub All-flat_map : {X Y : Type 0} (P : Y → Type 0) (f : X → List Y) (xs : List X)
    → All (λ x. All P (f x)) xs → All P (flat_map f xs)
All-flat_map P f [] all = λ index default within. absurd (omega arith)
All-flat_map P f (x ∷ xs) all =
    All-append P (f x) (flat_map f xs) (All-head (λ x. All P (f x)) x xs all)
    (All-flat_map P f xs (All-tail (λ x. All P (f x)) x xs all))

-- what is true of all of a joined list is true of the lists that it joins
pub All-from_flat_map : {X Y : Type 0} (P : Y → Type 0) (f : X → List Y) (xs : List X)
    → All P (flat_map f xs) → All (λ x. All P (f x)) xs
All-from_flat_map P f [] all = All-nil (λ x. All P (f x))
All-from_flat_map P f (x ∷ xs) all =
    All-cons (λ x. All P (f x)) x xs
    (All-same P (f x) (take (length (f x)) (flat_map f (x ∷ xs)))
    (sym (take-append_seam (f x) (flat_map f xs)))
    (All-take P (length (f x)) (flat_map f (x ∷ xs)) all))
    (All-from_flat_map P f xs
    (All-same P (flat_map f xs) (drop (length (f x)) (flat_map f (x ∷ xs)))
    (sym (drop-append_seam (f x) (flat_map f xs)))
    (All-drop P (length (f x)) (flat_map f (x ∷ xs)) all)))

-- all elements pass a test if none passes the test turned round
pub list_all-not : {X : Type 0} (test : X → Bool) (xs : List X)
    → list_all (λ x. not (test x)) xs ≡ not (list_any test xs)
list_all-not test [] = refl
list_all-not test (x ∷ xs) =
    ap (λ (rest : Bool). not (test x) && rest) (list_all-not test xs)
    ∙ not-or (test x) (list_any test xs)

-- all elements pass two tests if all pass each
pub list_all-and : {X : Type 0} (test other : X → Bool) (xs : List X)
    → (list_all test xs && list_all other xs) ≡ list_all (λ x. test x && other x) xs
list_all-and test other [] = refl
list_all-and test other (x ∷ xs) =
    crossed (test x) (list_all test xs) (other x) (list_all other xs)
    ∙ ap (λ (rest : Bool). (test x && other x) && rest) (list_all-and test other xs)
  where
    crossed : (first rest second last : Bool)
        → ((first && rest) && (second && last)) ≡ ((first && second) && (rest && last))
    crossed false rest second last = refl
    crossed true false false last = refl
    crossed true false true last = refl
    crossed true true second last = refl

-- two lists of numbers that are made of one are the same if each pair is
pub pointwise-map : {X : Type 0} (f g : X → ℕ) (xs : List X)
    → pointwise nat_eq (map f xs) (map g xs) ≡ list_all (λ x. nat_eq (f x) (g x)) xs
pointwise-map f g [] = refl
pointwise-map f g (x ∷ xs) =
    ap (λ (rest : Bool). nat_eq (f x) (g x) && rest) (pointwise-map f g xs)

-- two tests that agree on each element keep the same ones
pub filter-agree : {X : Type 0} (test other : X → Bool) (xs : List X)
    → All (λ x. test x ≡ other x) xs → filter test xs ≡ filter other xs
filter-agree test other [] agree = refl
filter-agree test other (x ∷ xs) agree =
    rw (All-head (λ x. test x ≡ other x) x xs agree)
    (ap (λ rest. cond (other x) (x ∷ rest) rest)
    (filter-agree test other xs (All-tail (λ x. test x ≡ other x) x xs agree)))

-- a list in front, if a test passes, makes the joined lists longer by it, or is empty
pub flat_map-cons_if : {X : Type 0} (test : Bool) (first : List X) (rest : List (List X))
    → (test ≡ false → first ≡ [])
    → flat_map (λ xs. xs) (if test then first ∷ rest else rest)
    ≡ first ++ flat_map (λ xs. xs) rest
flat_map-cons_if true first rest none = refl
flat_map-cons_if false first rest none = rw (none refl) refl

-- an element in front, if a test passes, counts
pub length-cons_if : {X : Type 0} (test : Bool) (first : X) (rest : List X)
    → length (if test then first ∷ rest else rest) ≡ (if test then 1 else 0) + length rest
length-cons_if true first rest = omega arith
length-cons_if false first rest = omega arith

-- a list with an element in front, if a test passes, goes on as it does without it
pub append-cons_if : {X : Type 0} (test : Bool) (first : X) (rest more : List X)
    → (if test then first ∷ (rest ++ more) else rest ++ more)
    ≡ (if test then first ∷ rest else rest) ++ more
append-cons_if true first rest more = refl
append-cons_if false first rest more = refl

-- the last of some numbers is what a fold that keeps the newest ends in
pub get_or-last : (first : ℕ) (later : List ℕ)
    → get_or (first ∷ later) (length later) 0 ≡ fold (λ _ number. number) first later
get_or-last first [] = refl
get_or-last first (next ∷ later) = get_or-last next later

-- a test that finds no element keeps none
pub filter-empty : {X : Type 0} (test : X → Bool) (xs : List X) → list_any test xs ≡ false
    → filter test xs ≡ []
filter-empty test [] found = refl
filter-empty test (x ∷ xs) found =
    let parts = or_parts (test x) (list_any test xs) found in
    rw parts.0 (filter-empty test xs parts.1)

-- a number below the bound is one of those below it
pub list_any-range_with_len : (number bound : ℕ) → number < bound
    → list_any (λ other. other == number) (range_with_len 0 bound) ≡ true
list_any-range_with_len number bound below =
    list_any_at (λ other. other == number) (range_with_len 0 bound) number 0
    (omega (arith, length-range_with_len 0 bound))
    (eq-eqb (get_or (range_with_len 0 bound) number 0) number
    (omega (arith, get_or-range_with_len 0 bound number 0 below)))

-- the first element stands before all later ones
pub AllPairs-head : {X : Type 0} (R : X → X → Type 0) (x : X) (xs : List X)
    → AllPairs R (x ∷ xs) → All (R x) xs
AllPairs-head R x xs pairs index default within =
    pairs 0 (suc index) default (omega arith) (omega arith)

-- the later ones are in order
pub AllPairs-tail : {X : Type 0} (R : X → X → Type 0) (x : X) (xs : List X)
    → AllPairs R (x ∷ xs) → AllPairs R xs
AllPairs-tail R x xs pairs first second default before within =
    pairs (suc first) (suc second) default (omega arith) (omega arith)

-- the first part is in order
pub AllPairs-front : {X : Type 0} (R : X → X → Type 0) (xs ys : List X)
    → AllPairs R (xs ++ ys) → AllPairs R xs
AllPairs-front R xs ys pairs first second default before within =
    rw (
      ← get_or_append_left xs ys default first (omega arith),
      ← get_or_append_left xs ys default second within,
    )
    (pairs first second default before (omega (arith, length-append xs ys)))

-- the elements after one stand after it
pub AllPairs-after : {X : Type 0} (R : X → X → Type 0) (xs : List X) (x : X) (ys : List X)
    → AllPairs R (xs ++ x ∷ ys) → All (R x) ys
AllPairs-after R [] x ys pairs = AllPairs-head R x ys pairs
AllPairs-after R (first ∷ xs) x ys pairs =
    AllPairs-after R xs x ys (AllPairs-tail R first (xs ++ x ∷ ys) pairs)

-- the elements before one stand before it
pub AllPairs-before : {X : Type 0} (R : X → X → Type 0) (xs : List X) (x : X) (ys : List X)
    → AllPairs R (xs ++ x ∷ ys) → All (λ before. R before x) xs
AllPairs-before R xs x ys pairs index default within =
    let pair : R (get_or (xs ++ x ∷ ys) index default) (get_or (xs ++ x ∷ ys) (length xs) default) =
    pairs index (length xs) default within (omega (arith, length-append xs (x ∷ ys))) in
    rw (
      get_or_append_left xs (x ∷ ys) default index within,
      get_or_at xs x ys default (length xs) refl,
    ) at pair

-- two lists are in order if all of the first stand before all of the second
pub AllPairs-append : {X : Type 0} (R : X → X → Type 0) (xs ys : List X)
    → AllPairs R xs → AllPairs R ys → All (λ x. All (R x) ys) xs → AllPairs R (xs ++ ys)
AllPairs-append R [] ys front back across = back
AllPairs-append R (x ∷ xs) ys front back across =
    AllPairs-cons R x (xs ++ ys)
    (All-append (R x) xs ys (AllPairs-head R x xs front)
    (All-head (λ x. All (R x) ys) x xs across))
    (AllPairs-append R xs ys (AllPairs-tail R x xs front) back
    (All-tail (λ x. All (R x) ys) x xs across))

-- what is made of the elements is in order if the elements are, made so
pub AllPairs-map : {X Y : Type 0} (R : Y → Y → Type 0) (f : X → Y) (xs : List X)
    → AllPairs (λ x next. R (f x) (f next)) xs → AllPairs R (map f xs)
AllPairs-map R f [] pairs = λ first second default before within. absurd (omega arith)
AllPairs-map R f (x ∷ xs) pairs =
    AllPairs-cons R (f x) (map f xs)
    (All-map (R (f x)) f xs (AllPairs-head (λ x next. R (f x) (f next)) x xs pairs))
    (AllPairs-map R f xs (AllPairs-tail (λ x next. R (f x) (f next)) x xs pairs))

-- the numbers of a run rise
pub AllPairs-range_with_len : (from many : ℕ)
    → AllPairs (λ (number next : ℕ). number < next) (range_with_len from many)
AllPairs-range_with_len from many first second default before within =
    let few : second < many = omega (arith, length-range_with_len from many) in
    rw (
      get_or-range_with_len from many first default (omega arith),
      get_or-range_with_len from many second default few,
    ) (omega arith)

-- what a list begins with, a list that begins with it begins with too
pub BeginsWith-step : {X : Type 0} (xs ys zs : List X) → BeginsWith xs ys → BeginsWith ys zs
    → BeginsWith xs zs
BeginsWith-step {X = X} xs ys zs first second =
    ap (λ (list : List X). take (length xs) list) (sym (take-append-drop (length ys) zs))
    ∙ ap (λ (front : List X). take (length xs) (front ++ drop (length ys) zs)) second
    ∙ take-append-le (length xs) ys (drop (length ys) zs)
    (omega (arith, length-take (length xs) ys, ap (λ (list : List X). length list) first))
    ∙ first

-- what begins with a list and more begins with the list
pub BeginsWith-append : {X : Type 0} (xs ys zs : List X) → BeginsWith (xs ++ ys) zs
    → BeginsWith xs zs
BeginsWith-append xs ys zs begins =
    BeginsWith-step xs (xs ++ ys) zs (take-append_seam xs ys) begins
