-- The rows that deliveries set aside, as they are accepted one after the other.
use Rattle.std.proofs.Common.{◌≡◌, ◌∙◌, List, [], ◌∷◌, ◌++◌, sym, ap}
use Rattle.std.specs.Prelude.{Bool, if◌then◌else◌}
use Rattle.std.proofs.lemmas.List.{append-nil, append_assoc}
use Rattle.desc_types.specs.Deliveries.{DeliveryOf}
use Rattle.desc_types.specs.Descriptions.{DescOf}
use Rattle.view_meaning.specs.declared.aside.Aside.{Aside}
use Rattle.view_meaning.specs.SetAside.{asides_after, asides_of}

-- the rows of two lists of deliveries are those of the first, then those of the second
pub asides_after-append : (desc : DescOf) (of : DeliveryOf → Bool)
    (before accepted more : List DeliveryOf)
    → asides_after desc of before (accepted ++ more)
    ≡ asides_after desc of before accepted ++ asides_after desc of (before ++ accepted) more
asides_after-append desc of before [] more =
    ap (λ (all : List DeliveryOf). asides_after desc of all more) (sym (append-nil before))
asides_after-append desc of before (delivery ∷ later) more =
    let next = before ++ delivery ∷ [] in
    let own = if of delivery then asides_of desc before delivery else [] in
    ap (λ (rest : List Aside). own ++ rest)
    (asides_after-append desc of next later more
    ∙ ap (λ (all : List DeliveryOf).
    asides_after desc of next later ++ asides_after desc of all more)
    (append_assoc before (delivery ∷ []) later))
    ∙ sym (append_assoc own (asides_after desc of next later)
    (asides_after desc of (before ++ delivery ∷ later) more))

-- the rows of one delivery more come last
pub asides_after-push : (desc : DescOf) (of : DeliveryOf → Bool) (before accepted : List DeliveryOf)
    (delivery : DeliveryOf)
    → asides_after desc of before (accepted ++ delivery ∷ [])
    ≡ asides_after desc of before accepted
    ++ (if of delivery then asides_of desc (before ++ accepted) delivery else [])
asides_after-push desc of before accepted delivery =
    asides_after-append desc of before accepted (delivery ∷ [])
    ∙ ap (λ (rows : List Aside). asides_after desc of before accepted ++ rows)
    (append-nil (if of delivery then asides_of desc (before ++ accepted) delivery else []))
