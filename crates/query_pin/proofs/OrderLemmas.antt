-- Partitions and versions are in a total order, and two that compare as equal are the same.
use Rattle.std.proofs.Common.{◌≡◌, ◌∙◌, sym, refl, arith}
use Rattle.std.specs.Prelude.{true, false, ◌==◌}
use Rattle.std.specs.BTreeMap.{is_at}
use Rattle.std.specs.Cmp.{IsTotalOrder}
use Rattle.std.specs.Ordering.{is_gt, ordering_then}
use Rattle.std.specs.declared.cmp.Ordering.{Ordering}
use Rattle.std.specs.declared.cmp.Ordering.TheVariants.{Less, Equal, Greater}
use Rattle.std.proofs.lemmas.Bool.{and_parts, eqb-true}
use Rattle.std.proofs.lemmas.Bool.Decides.{nat_tests}
use Rattle.std.proofs.lemmas.Cmp.{nat_cmp_total, on_total, then_total}
use Rattle.desc_types.specs.declared.table.Key.{Key}
use Rattle.desc_types.specs.Keys.{key_cmp}
use Rattle.view_meaning.specs.Partitions.{is_key}
use Rattle.view_meaning.proofs.AmongLemmas.{is_key-same}
use Rattle.query_pin.specs.declared.input.Input.{Input}
use Rattle.query_pin.specs.Inputs.{input_cmp, is_version}

-- partitions are in a total order
pub key_cmp-total : IsTotalOrder key_cmp
key_cmp-total =
    then_total (on_total (λ (key : Key). key.table) nat_cmp_total)
    (on_total (λ (key : Key). key.part) nat_cmp_total)

-- versions are in a total order
pub input_cmp-total : IsTotalOrder input_cmp
input_cmp-total =
    then_total (on_total (λ (read : Input). read.key) key_cmp-total)
    (on_total (λ (read : Input). read.version) nat_cmp_total)

-- a partition is at another exactly if it is that one
pub is_at-key_cmp : (key other : Key) → is_at (key_cmp key) other ≡ is_key other key
is_at-key_cmp key other = grind (arith, nat_tests)

-- a version is at another exactly if it is that one
pub is_at-input_cmp : (read other : Input) → is_at (input_cmp read) other ≡ is_version other read
is_at-input_cmp read other = grind (arith, nat_tests)

-- versions that the test finds the same are equal
pub is_version-same : (read other : Input) → is_version read other ≡ true → other ≡ read
is_version-same read other same =
    let parts = and_parts (is_key read.key other.key) (other.version == read.version) same in
    let key = is_key-same read.key other.key parts.0 in
    let version = eqb-true other.version read.version parts.1 in
    λ i. record { key = key i; version = version i }

-- partitions that compare as equal are the same
pub key_cmp-same : (key other : Key) → is_at (key_cmp key) other ≡ true → key ≡ other
key_cmp-same key other equal = is_key-same other key (sym (is_at-key_cmp key other) ∙ equal)

-- versions that compare as equal are the same
pub input_cmp-same : (read other : Input) → is_at (input_cmp read) other ≡ true → read ≡ other
input_cmp-same read other equal =
    is_version-same other read (sym (is_at-input_cmp read other) ∙ equal)

-- what does not come after another by two parts does not by the first
pub is_gt-first : (first second : Ordering) → is_gt (ordering_then first second) ≡ false
    → is_gt first ≡ false
is_gt-first Less second upto = refl
is_gt-first Equal second upto = refl
is_gt-first Greater second upto = upto
