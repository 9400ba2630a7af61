-- Lists that are read from the front: what was read, and after it what the rest is.
use Rattle.std.proofs.Common.{◌≡◌, List, [], ◌∷◌, ◌++◌, Ok, Err, refl, sym, ap, append_assoc}
use Rattle.std.specs.Prelude.{Result}
use Rattle.feed_csv.specs.Bodies.{then_more}
use Rattle.feed_csv.proofs.ListLemmas.{same_Ok}

-- more after a front, or the fault of what is more
abbrev pub with_front : {X F : Type 0} → List X → Result (List X) F → Result (List X) F
with_front front (Err fault) = Err fault
with_front front (Ok others) = Ok (front ++ others)

-- nothing before a list is that list
pub with_front-empty : {X F : Type 0} (rest : Result (List X) F) → with_front [] rest ≡ rest
with_front-empty (Err fault) = refl
with_front-empty (Ok rest) = refl

-- the first of the rest goes to the front
pub with_front-push : {X F : Type 0} (front : List X) (first : X) (rest : Result (List X) F)
    → with_front front (then_more (Ok first) rest) ≡ with_front (front ++ first ∷ []) rest
with_front-push front first (Err fault) = refl
with_front-push front first (Ok rest) = ap Ok (sym (append_assoc front (first ∷ []) rest))

-- a list that is there has a first element that is there, and others that are
pub then_more-ok : {X F P : Type 0} (first : Result X F) (others : Result (List X) F)
    (xs : List X)
    → then_more first others ≡ Ok xs
    → ((x : X) (ys : List X) → first ≡ Ok x → others ≡ Ok ys → x ∷ ys ≡ xs → P) → P
then_more-ok (Err fault) others xs made go = absurd cc
then_more-ok (Ok x) (Err fault) xs made go = absurd cc
then_more-ok (Ok x) (Ok ys) xs made go = go x ys refl refl (same_Ok made)
