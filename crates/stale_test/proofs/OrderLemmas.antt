-- The order of keys: two compare as equal exactly if they are the same.
use Rattle.std.proofs.Common.{◌≡◌, ◌∙◌, ℕ, ap, refl, arith}
use Rattle.std.specs.Prelude.{Bool, ◌&&◌, ◌==◌}
use Rattle.std.specs.BTreeMap.{is_at}
use Rattle.std.specs.Ordering.{is_eq, nat_cmp, ordering_then}
use Rattle.std.specs.declared.cmp.Ordering.{Ordering}
use Rattle.std.specs.declared.cmp.Ordering.TheVariants.{Less, Equal, Greater}
use Rattle.std.specs.Cmp.{IsTotalOrder}
use Rattle.std.proofs.lemmas.Cmp.{nat_cmp_total, on_total, then_total}
use Rattle.std.proofs.lemmas.Bool.Decides.{nat_tests}
use Rattle.desc_types.specs.declared.table.Key.{Key}
use Rattle.desc_types.specs.Keys.{key_cmp}
use Rattle.view_meaning.specs.Partitions.{is_key}

-- numbers compare as equal exactly if they are the same
is_eq-nat_cmp : (number other : ℕ) → is_eq (nat_cmp number other) ≡ (number == other)
is_eq-nat_cmp number other = grind (arith, nat_tests)

-- an order of two parts is equal exactly if both are
is_eq-ordering_then : (first second : Ordering)
    → is_eq (ordering_then first second) ≡ (is_eq first && is_eq second)
is_eq-ordering_then Less second = refl
is_eq-ordering_then Equal second = refl
is_eq-ordering_then Greater second = refl

-- a key is at another exactly if the two are the same
pub is_at-is_key : (key other : Key) → is_at (key_cmp key) other ≡ is_key other key
is_at-is_key key other =
    is_eq-ordering_then (nat_cmp key.table other.table) (nat_cmp key.part other.part)
    ∙ ap (λ (same : Bool). same && is_eq (nat_cmp key.part other.part))
    (is_eq-nat_cmp key.table other.table)
    ∙ ap (λ (same : Bool). (key.table == other.table) && same)
    (is_eq-nat_cmp key.part other.part)

-- keys are in a total order
pub key_cmp-total : IsTotalOrder key_cmp
key_cmp-total =
    then_total (on_total (λ (key : Key). key.table) nat_cmp_total)
    (on_total (λ (key : Key). key.part) nat_cmp_total)
