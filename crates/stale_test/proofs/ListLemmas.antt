-- Facts on lists of anything that std does not have.
use Rattle.std.proofs.Common.{◌≡◌, ◌∙◌, ℕ, ◌+◌, ◌-◌, ◌≤◌, List, [], ◌∷◌, ◌++◌, map, cond, refl}
use Rattle.std.proofs.Common.{ap, arith}
use Rattle.std.specs.Prelude.{Bool, true, false, flat_map}
use Rattle.std.specs.List.{filter, range_with_len}
use Rattle.std.proofs.lemmas.List.Elements.{filter-append}
use Rattle.partition_map.proofs.ListLemmas.{range_with_len-append}

-- a test of mapped elements keeps the images of those whose images pass
pub filter-map : {X Y : Type 0} (test : Y → Bool) (f : X → Y) (xs : List X)
    → filter test (map f xs) ≡ map f (filter (λ x. test (f x)) xs)
filter-map test f [] = refl
filter-map test f (x ∷ xs) =
    rw (filter-map test f xs) (each (test (f x)))
  where
    each : (passes : Bool)
        → cond passes (f x ∷ map f (filter (λ x. test (f x)) xs))
        (map f (filter (λ x. test (f x)) xs))
        ≡ map f (cond passes (x ∷ filter (λ x. test (f x)) xs) (filter (λ x. test (f x)) xs))
    each true = refl
    each false = refl

-- a test keeps of joined lists what it keeps of each
pub filter-flat_map : {X Y : Type 0} (test : Y → Bool) (f : X → List Y) (xs : List X)
    → filter test (flat_map f xs) ≡ flat_map (λ x. filter test (f x)) xs
filter-flat_map test f [] = refl
filter-flat_map test f (x ∷ xs) =
    filter-append test (f x) (flat_map f xs)
    ∙ ap (λ rest. filter test (f x) ++ rest) (filter-flat_map test f xs)

-- a run up to a number, with that one
pub range_with_len-push : (first last : ℕ) → first ≤ last
    → range_with_len first (last + 1 - first) ≡ range_with_len first (last - first) ++ last ∷ []
range_with_len-push first last in_order =
    ap (λ (many : ℕ). range_with_len first many) (omega arith)
    ∙ range_with_len-append first (last - first) 1 last (omega arith)
