-- Words that are cut into items.
use Rattle.std.proofs.Common.{◌≡◌, List, [], ◌∷◌, Bool, true, false, refl, cond, map}
use Rattle.std.specs.List.{onto_first, slice_split}

-- an item before the first part is so among images too
onto_first-map : {X Y : Type 0} (f : X → Y) (x : X) (parts : List (List X))
    → onto_first (f x) (map (map f) parts) ≡ map (map f) (onto_first x parts)
onto_first-map f x [] = refl
onto_first-map f x (part ∷ parts) = refl

-- a list of images is cut where the list is
pub slice_split-map : {X Y : Type 0} (f : X → Y) (is_cut : Y → Bool) (xs : List X)
    → slice_split is_cut (map f xs) ≡ map (map f) (slice_split (λ x. is_cut (f x)) xs)
slice_split-map f is_cut [] = refl
slice_split-map {X} f is_cut (x ∷ xs) = rw (slice_split-map f is_cut xs)
    (by_test (is_cut (f x)) (slice_split (λ x. is_cut (f x)) xs))
  where
    by_test : (test : Bool) (parts : List (List X))
        → cond test ([] ∷ map (map f) parts) (onto_first (f x) (map (map f) parts))
        ≡ map (map f) (cond test ([] ∷ parts) (onto_first x parts))
    by_test true parts = refl
    by_test false parts = onto_first-map f x parts
