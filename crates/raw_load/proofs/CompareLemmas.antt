-- Keys and numbers compare as equal exactly if their parts are the same.
use Rattle.std.proofs.Common.{◌≡◌, ◌∙◌, ℕ, ap, arith, refl}
use Rattle.std.specs.Prelude.{Bool, true, ◌&&◌, ◌==◌}
use Rattle.std.specs.BTreeMap.{is_at}
use Rattle.std.specs.Ordering.{is_eq, nat_cmp, ordering_then}
use Rattle.std.specs.declared.cmp.Ordering.{Ordering}
use Rattle.std.specs.declared.cmp.Ordering.TheVariants.{Less, Equal, Greater}
use Rattle.std.specs.Cmp.{IsTotalOrder}
use Rattle.std.proofs.lemmas.Cmp.{nat_cmp_total, on_total, then_total}
use Rattle.std.proofs.lemmas.Bool.{and_parts, eqb-true}
use Rattle.std.proofs.lemmas.Bool.Decides.{nat_tests}
use Rattle.desc_types.specs.declared.table.Key.{Key}
use Rattle.desc_types.specs.Keys.{key_cmp}
use Rattle.raw_load.specs.declared.piece.Number.{Number}
use Rattle.raw_load.specs.Loads.{number_cmp}

-- numbers compare as equal exactly if they are the same
is_eq-nat_cmp : (number other : ℕ) → is_eq (nat_cmp number other) ≡ (number == other)
is_eq-nat_cmp number other = grind (arith, nat_tests)

-- an order of two parts is equal exactly if both are
is_eq-ordering_then : (first second : Ordering)
    → is_eq (ordering_then first second) ≡ (is_eq first && is_eq second)
is_eq-ordering_then Less second = refl
is_eq-ordering_then Equal second = refl
is_eq-ordering_then Greater second = refl

-- two pairs of numbers compare as equal exactly if both parts are the same
is_eq-pair : (first second other next : ℕ)
    → is_eq (ordering_then (nat_cmp first other) (nat_cmp second next))
    ≡ ((first == other) && (second == next))
is_eq-pair first second other next =
    is_eq-ordering_then (nat_cmp first other) (nat_cmp second next)
    ∙ ap (λ (same : Bool). same && is_eq (nat_cmp second next)) (is_eq-nat_cmp first other)
    ∙ ap (λ (same : Bool). (first == other) && same) (is_eq-nat_cmp second next)

-- a key is at another exactly if table and part are the same
pub is_at-key_cmp : (key other : Key)
    → is_at (key_cmp key) other ≡ ((key.table == other.table) && (key.part == other.part))
is_at-key_cmp key other = is_eq-pair key.table key.part other.table other.part

-- a key is at itself
pub is_at-key_cmp-itself : (key : Key) → is_at (key_cmp key) key ≡ true
is_at-key_cmp-itself key = is_at-key_cmp key key ∙ grind (arith, nat_tests)

-- a key that is at another is that one
pub is_at-key_cmp-same : (key other : Key) → is_at (key_cmp key) other ≡ true → key ≡ other
is_at-key_cmp-same key other same =
    let parts = and_parts (key.table == other.table) (key.part == other.part)
    (rw (is_at-key_cmp key other) at same) in
    let table : key.table ≡ other.table = eqb-true key.table other.table parts.0 in
    let part : key.part ≡ other.part = eqb-true key.part other.part parts.1 in
    λ i. record { table = table i; part = part i }

-- keys are in a total order
pub key_cmp-total : IsTotalOrder key_cmp
key_cmp-total =
    then_total (on_total (λ (key : Key). key.table) nat_cmp_total)
    (on_total (λ (key : Key). key.part) nat_cmp_total)

-- a number is at another exactly if feed and number are the same
pub is_at-number_cmp : (number other : Number)
    → is_at (number_cmp number) other
    ≡ ((number.feed == other.feed) && (number.number == other.number))
is_at-number_cmp number other = is_eq-pair number.feed number.number other.feed other.number

-- a number that is at another is that one
pub is_at-number_cmp-same : (number other : Number) → is_at (number_cmp number) other ≡ true
    → number ≡ other
is_at-number_cmp-same number other same =
    let parts = and_parts (number.feed == other.feed) (number.number == other.number)
    (rw (is_at-number_cmp number other) at same) in
    let feed : number.feed ≡ other.feed = eqb-true number.feed other.feed parts.0 in
    let own : number.number ≡ other.number = eqb-true number.number other.number parts.1 in
    λ i. record { feed = feed i; number = own i }
