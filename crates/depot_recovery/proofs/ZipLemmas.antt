-- Lists whose elements fit each other place by place (`AllZip`): joined, picked by places, and made
-- of one list. And what is true of each element that a function gives (`All-filter_map`).
use Rattle.std.proofs.Common.{◌≡◌, ◌∙◌, ℕ, zero, suc, List, [], ◌∷◌, ◌++◌, map, refl, sym, ap}
use Rattle.std.specs.Prelude.{⊤, Option, Some, None, All, IfSome, IsSomeAnd, filter_map}
use Rattle.std.specs.Prelude.{option_map, slice_get}
use Rattle.std.specs.List.{AllZip, cons_option}
use Rattle.std.proofs.lemmas.List.Elements.{All-cons, All-head, All-nil, All-tail}
use Rattle.std.proofs.lemmas.Option.{MatchOption-at_some, slice_get-map}
use Rattle.std.proofs.lemmas.Slice.Zip.{AllZip-left}

-- the elements at some places, in the order of these
abbrev pub picked : {X : Type 0} → List X → (places : List ℕ) → List X
picked xs places = filter_map (slice_get xs) places

-- two that are there and fit each other, or none
abbrev BothFit : {X Y : Type 0} → (X → Y → Type 0) → Option X → Option Y → Type 0
BothFit fits None None = ⊤
BothFit fits None (Some y) = ⊥
BothFit fits (Some x) None = ⊥
BothFit fits (Some x) (Some y) = fits x y

-- lists that fit do at each place
BothFit-slice_get : {X Y : Type 0} (fits : X → Y → Type 0) (xs : List X) (ys : List Y) (place : ℕ)
    → AllZip fits xs ys → BothFit fits (slice_get xs place) (slice_get ys place)
BothFit-slice_get fits [] [] place all = tt
BothFit-slice_get fits [] (y ∷ ys) place all = absurd all
BothFit-slice_get fits (x ∷ xs) [] place all = absurd all
BothFit-slice_get fits (x ∷ xs) (y ∷ ys) zero all = all.0
BothFit-slice_get fits (x ∷ xs) (y ∷ ys) (suc place) all =
    BothFit-slice_get fits xs ys place all.1

-- one that is there and fits is a pair that fits
BothFit-some : {X Y : Type 0} (fits : X → Y → Type 0) (x : X) (found : Option Y)
    → IsSomeAnd found (fits x) → BothFit fits (Some x) found
BothFit-some fits x None there = absurd there
BothFit-some fits x (Some y) there = there

-- of lists that fit, what stands at the place of an element fits it
pub AllZip-slice_get : {X Y : Type 0} (fits : X → Y → Type 0) (xs : List X) (ys : List Y)
    (place : ℕ) (x : X) → slice_get xs place ≡ Some x → AllZip fits xs ys
    → IsSomeAnd (slice_get ys place) (fits x)
AllZip-slice_get fits xs ys place x there all =
    MatchOption-at_some (Unit {0}) (λ x. IsSomeAnd (slice_get ys place) (fits x)) x there
    (AllZip-left fits xs ys all place)

-- lists that fit do with a pair in front that fits, or with none
AllZip-cons_option : {X Y : Type 0} (fits : X → Y → Type 0) (first : Option X)
    (second : Option Y) (xs : List X) (ys : List Y) → BothFit fits first second → AllZip fits xs ys
    → AllZip fits (cons_option first xs) (cons_option second ys)
AllZip-cons_option fits None None xs ys both all = all
AllZip-cons_option fits None (Some y) xs ys both all = absurd both
AllZip-cons_option fits (Some x) None xs ys both all = absurd both
AllZip-cons_option fits (Some x) (Some y) xs ys both all = (both, all)

-- of lists that fit, what stands at some places fits
pub AllZip-picked : {X Y : Type 0} (fits : X → Y → Type 0) (xs : List X) (ys : List Y)
    (places : List ℕ) → AllZip fits xs ys → AllZip fits (picked xs places) (picked ys places)
AllZip-picked fits xs ys [] all = tt
AllZip-picked fits xs ys (place ∷ places) all =
    AllZip-cons_option fits (slice_get xs place) (slice_get ys place)
    (picked xs places) (picked ys places)
    (BothFit-slice_get fits xs ys place all)
    (AllZip-picked fits xs ys places all)

-- lists that fit do one after the other
pub AllZip-append : {X Y : Type 0} (fits : X → Y → Type 0) (xs : List X) (ys : List Y)
    (more : List X) (others : List Y) → AllZip fits xs ys → AllZip fits more others
    → AllZip fits (xs ++ more) (ys ++ others)
AllZip-append fits [] [] more others front back = back
AllZip-append fits [] (y ∷ ys) more others front back = absurd front
AllZip-append fits (x ∷ xs) [] more others front back = absurd front
AllZip-append fits (x ∷ xs) (y ∷ ys) more others front back =
    (front.0, AllZip-append fits xs ys more others front.1 back)

-- two lists that are made of one fit, if of each element both are made and fit
pub AllZip-filter_map : {X Y Z : Type 0} (fits : X → Y → Type 0) (f : Z → X) (g : Z → Option Y)
    (zs : List Z) → All (λ z. IsSomeAnd (g z) (fits (f z))) zs
    → AllZip fits (map f zs) (filter_map g zs)
AllZip-filter_map fits f g [] all = tt
AllZip-filter_map fits f g (z ∷ zs) all =
    AllZip-cons_option fits (Some (f z)) (g z) (map f zs) (filter_map g zs)
    (BothFit-some fits (f z) (g z) (All-head (λ z. IsSomeAnd (g z) (fits (f z))) z zs all))
    (AllZip-filter_map fits f g zs (All-tail (λ z. IsSomeAnd (g z) (fits (f z))) z zs all))

-- what is true of each element is true with one in front of which it is true, or with none
All-cons_option : {X : Type 0} (P : X → Type 0) (found : Option X) (xs : List X)
    → IfSome found P → All P xs → All P (cons_option found xs)
All-cons_option P None xs first all = all
All-cons_option P (Some x) xs first all = All-cons P x xs first all

-- what is true of all that a function gives of each element
pub All-filter_map : {X Y : Type 0} (P : Y → Type 0) (f : X → Option Y) (xs : List X)
    → All (λ x. IfSome (f x) P) xs → All P (filter_map f xs)
All-filter_map P f [] all = All-nil P
All-filter_map P f (x ∷ xs) all =
    All-cons_option P (f x) (filter_map f xs) (All-head (λ x. IfSome (f x) P) x xs all)
    (All-filter_map P f xs (All-tail (λ x. IfSome (f x) P) x xs all))

-- what is made of a list with an element in front, if it is there
map-cons_option : {X Y : Type 0} (f : X → Y) (found : Option X) (xs : List X)
    → map f (cons_option found xs) ≡ cons_option (option_map f found) (map f xs)
map-cons_option f None xs = refl
map-cons_option f (Some x) xs = refl

-- what is made of picked elements is picked of what is made of all
pub map-picked : {X Y : Type 0} (f : X → Y) (xs : List X) (places : List ℕ)
    → map f (picked xs places) ≡ picked (map f xs) places
map-picked f xs [] = refl
map-picked {Y = Y} f xs (place ∷ places) =
    map-cons_option f (slice_get xs place) (picked xs places)
    ∙ ap (λ (rest : List Y). cons_option (option_map f (slice_get xs place)) rest)
    (map-picked f xs places)
    ∙ ap (λ (found : Option Y). cons_option found (picked (map f xs) places))
    (sym (slice_get-map f xs place))
