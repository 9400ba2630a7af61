-- General facts on lists and options.
use Rattle.std.proofs.Common.{◌≡◌, ℕ, zero, suc, ◌<◌, ◌++◌, List, [], ◌∷◌, Option, Some, None}
use Rattle.std.proofs.Common.{Bool, true, false, ◌+◌, ◌∙◌, get_or, length, map, take, subst, refl, ap}
use Rattle.std.proofs.Common.{arith, rules}
use Rattle.std.specs.Prelude.{option_map, slice_get, if◌then◌else◌, ◌||◌, not, All}
use Rattle.std.specs.List.{cons_option, filter_map, list_any}
use Rattle.std.proofs.lemmas.List.{take_more}
use Rattle.std.proofs.lemmas.List.Elements.{filter_map-append, All-cons, All-nil, All-weaker}
use Rattle.desc_types.proofs.BoolLemmas.{or-none, not-false}
use Rattle.std.proofs.lemmas.Option.{same_Some}

-- what is so of each place of a list, and of one more element at its end, is so of each place
pub each_place-push : {X : Type 0} (P : ℕ → X → Type 0) (xs : List X) (last : X)
    → ((place : ℕ) (x : X) → slice_get xs place ≡ Some x → P place x)
    → P (length xs) last
    → (place : ℕ) (x : X) → slice_get (xs ++ last ∷ []) place ≡ Some x → P place x
each_place-push P [] last each here zero x there = subst (P 0) (search (rules, there)) here
each_place-push P [] last each here (suc place) x there = absurd cc
each_place-push P (first ∷ xs) last each here zero x there = each 0 x there
each_place-push P (first ∷ xs) last each here (suc place) x there =
    each_place-push (λ place. P (suc place)) xs last (λ place. each (suc place)) here place x there

-- an element keeps its place if one more is added
pub slice_get-push : {X : Type 0} (xs : List X) (last : X) (place : ℕ) → place < length xs
    → slice_get (xs ++ last ∷ []) place ≡ slice_get xs place
slice_get-push [] last place within = absurd (omega (arith, within))
slice_get-push (x ∷ xs) last zero within = refl
slice_get-push (x ∷ xs) last (suc place) within =
    slice_get-push xs last place (omega (arith, within))

-- what is there under a test that passes is there
pub if-some : {X : Type 0} (test : Bool) (found : Option X) (x : X)
    → (if test then found else None) ≡ Some x → found ≡ Some x
if-some true found x there = there
if-some false found x there = absurd cc

-- what a map answers comes of something that is there
pub option_map-some : {A B P : Type 0} (f : A → B) (o : Option A) (y : B)
    → option_map f o ≡ Some y → ((x : A) → o ≡ Some x → f x ≡ y → P) → P
option_map-some f None y there go = absurd cc
option_map-some f (Some x) y there go = go x refl (same_Some _ _ there)

-- a test of what is made of elements is a test of them
pub list_any-map : {X Y : Type 0} (f : X → Y) (test : Y → Bool) (xs : List X)
    → list_any test (map f xs) ≡ list_any (λ x. test (f x)) xs
list_any-map f test [] = refl
list_any-map f test (x ∷ xs) = ap (λ others. test (f x) || others) (list_any-map f test xs)

-- what a function gives of one item more
pub filter_map-take : {X Y : Type 0} (f : X → Option Y) (xs : List X) (place : ℕ) (default : X)
    → place < length xs
    → filter_map f (take (place + 1) xs)
    ≡ filter_map f (take place xs) ++ cons_option (f (get_or xs place default)) []
filter_map-take f xs place default within =
    ap (filter_map f) (take_more xs place default within)
    ∙ filter_map-append f (take place xs) (get_or xs place default ∷ [])

-- a test that no item passes
pub list_any-none : {X : Type 0} (test : X → Bool) (xs : List X) → list_any test xs ≡ false
    → All (λ x. test x ≡ false) xs
list_any-none test [] none = All-nil (λ x. test x ≡ false)
list_any-none test (x ∷ xs) none =
    let parts = or-none (test x) (list_any test xs) none in
    All-cons (λ x. test x ≡ false) x xs parts.0 (list_any-none test xs parts.1)

-- a test that each item passes, since none passes its opposite
pub list_any-not : {X : Type 0} (test : X → Bool) (xs : List X)
    → list_any (λ x. not (test x)) xs ≡ false → All (λ x. test x ≡ true) xs
list_any-not test xs none = All-weaker (λ x. not (test x) ≡ false) (λ x. test x ≡ true)
    (λ x. not-false (test x)) xs (list_any-none (λ x. not (test x)) xs none)
