-- The marks of the partitions that a request asks for, number by number.
use Rattle.std.proofs.Common.{◌≡◌, ◌∙◌, ℕ, ◌+◌, ◌-◌, ◌≤◌, List, [], ◌∷◌, ◌++◌, append_assoc, ap, arith}
use Rattle.std.proofs.Common.{map, sym}
use Rattle.std.specs.List.{range_with_len}
use Rattle.std.proofs.lemmas.List.{map-append}
use Rattle.std.proofs.lemmas.List.FromFn.{map-range_with_len_more}

-- what is told of the keys in a run of numbers from the first one up to this one
abbrev pub told_each : {K X : Type 0} → (told : K → X) → (key_at : ℕ → K) → (first part : ℕ)
    → List X
told_each told key_at first part = map told (map key_at (range_with_len first (part - first)))

-- one number more of the run is one more to be told
told_each-push : {K X : Type 0} (told : K → X) (key_at : ℕ → K) (first part : ℕ) → first ≤ part
    → told_each told key_at first (part + 1)
    ≡ told_each told key_at first part ++ told (key_at part) ∷ []
told_each-push {K} told key_at first part from_first =
    let keys : ℕ → List K = λ count. map key_at (range_with_len first count) in
    let count : part + 1 - first ≡ part - first + 1 = omega arith in
    ap (λ (count : ℕ). map told (keys count)) count
    ∙ ap (map told) (map-range_with_len_more key_at first (part - first) part (omega arith))
    ∙ map-append told (keys (part - first)) (key_at part ∷ [])

-- so it is with a list that is told after another
pub told_each-step : {K X : Type 0} (told : K → X) (key_at : ℕ → K) (first part : ℕ)
    (before so_far next : List X) → first ≤ part
    → so_far ≡ before ++ told_each told key_at first part
    → next ≡ so_far ++ told (key_at part) ∷ []
    → next ≡ before ++ told_each told key_at first (part + 1)
told_each-step told key_at first part before so_far next from_first begun is_next =
    is_next
    ∙ ap (λ so_far. so_far ++ told (key_at part) ∷ []) begun
    ∙ append_assoc before (told_each told key_at first part) (told (key_at part) ∷ [])
    ∙ ap (λ all. before ++ all) (sym (told_each-push told key_at first part from_first))
