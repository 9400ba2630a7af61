-- Keys in maps and lists: they compare as equal exactly if they are the same, and each of a list is
-- among it.
use Rattle.std.proofs.Common.{◌≡◌, ◌∙◌, ℕ, List, get_or, ap, arith, refl}
use Rattle.std.specs.Prelude.{Bool, true, All, ◌&&◌, ◌==◌}
use Rattle.std.specs.BTreeMap.{is_at}
use Rattle.std.specs.Ordering.{is_eq, nat_cmp, ordering_then}
use Rattle.std.specs.declared.cmp.Ordering.{Ordering}
use Rattle.std.specs.declared.cmp.Ordering.TheVariants.{Less, Equal, Greater}
use Rattle.std.proofs.lemmas.Bool.Decides.{nat_tests}
use Rattle.std.proofs.lemmas.List.Folds.{list_any_at}
use Rattle.desc_types.specs.declared.table.Key.{Key}
use Rattle.desc_types.specs.Keys.{key_cmp}
use Rattle.view_meaning.specs.Partitions.{is_among, is_key}
use Rattle.view_meaning.proofs.AmongLemmas.{is_key-itself}

-- numbers compare as equal exactly if they are the same
pub is_eq-nat_cmp : (number other : ℕ) → is_eq (nat_cmp number other) ≡ (number == other)
is_eq-nat_cmp number other = grind (arith, nat_tests)

-- an order of two parts is equal exactly if both are
pub is_eq-ordering_then : (first second : Ordering)
    → is_eq (ordering_then first second) ≡ (is_eq first && is_eq second)
is_eq-ordering_then Less second = refl
is_eq-ordering_then Equal second = refl
is_eq-ordering_then Greater second = refl

-- a key is found at another exactly if it is that one
pub is_at-key_cmp : (key other : Key) → is_at (key_cmp key) other ≡ is_key other key
is_at-key_cmp key other =
    is_eq-ordering_then (nat_cmp key.table other.table) (nat_cmp key.part other.part)
    ∙ ap (λ (same : Bool). same && is_eq (nat_cmp key.part other.part))
    (is_eq-nat_cmp key.table other.table)
    ∙ ap (λ (same : Bool). (key.table == other.table) && same)
    (is_eq-nat_cmp key.part other.part)

-- each key of a list is among it
pub is_among-each : (keys : List Key) → All (λ key. is_among keys key ≡ true) keys
is_among-each keys index default within =
    list_any_at (is_key (get_or keys index default)) keys index default within
    (is_key-itself (get_or keys index default))
