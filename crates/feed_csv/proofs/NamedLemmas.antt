-- A raw table that has a name is the one that is found by it, since names of tables differ:
-- `find_raw_table-named`.
use Rattle.std.proofs.Common.{◌≡◌, ◌∙◌, ◌<◌, ◌∷◌, [], ℕ, zero, suc, List, Some, Bool}
use Rattle.std.proofs.Common.{true, false, length, map, refl, sym, ap, subst, arith, inl, inr}
use Rattle.std.specs.Prelude.{◌&&◌, ◌||◌, not, slice_get}
use Rattle.std.specs.List.{list_any, position_or_len}
use Rattle.std.specs.Str.{bytes_eq}
use Rattle.std.proofs.lemmas.Bool.{cases_Bool}
use Rattle.std.proofs.lemmas.Grind.{common_steps}
use Rattle.std.proofs.lemmas.Slice.Eq.{bytes_eq-Decides}
use Rattle.desc_types.proofs.BoolLemmas.{and-both, not-true}
use Rattle.desc_types.specs.Accepted.{IsAccepted}
use Rattle.desc_types.specs.Columns.{are_different}
use Rattle.desc_types.specs.Descriptions.{DescOf}
use Rattle.desc_types.specs.Tables.{TableOf}
use Rattle.feed_csv.specs.Bodies.{find_raw_table, is_raw_named, is_raw_of}

-- the names of tables
abbrev names : List TableOf → List (List ℕ)
names tables = map (λ (table : TableOf). table.name) tables

-- whether a table has the name, and is a raw one of the feed
abbrev test : (feed : ℕ) → (name : List ℕ) → TableOf → Bool
test feed name table = bytes_eq table.name name && is_raw_of feed table.kind

-- a test does not hold and fail
true-false : true ≡ false → ⊥
true-false both = cc both

-- a test that holds, behind another one
or-right : (left : Bool) {right : Bool} → right ≡ true → (left || right) ≡ true
or-right true holds = refl
or-right false holds = holds

-- a name is among those of tables if one of them has it
list_any-named : (feed : ℕ) (name : List ℕ) (tables : List TableOf) (place : ℕ)
    → is_raw_named feed name (slice_get tables place) ≡ true
    → list_any (bytes_eq name) (names tables) ≡ true
list_any-named feed name [] place named = absurd cc
list_any-named feed name (first ∷ others) zero named =
    let same = (bytes_eq-Decides first.name name).0 (and-both (bytes_eq first.name name) _ named).0 in
    ap (λ found. found || list_any (bytes_eq name) (names others))
    ((bytes_eq-Decides name first.name).1 (sym same))
list_any-named feed name (first ∷ others) (suc place) named =
    or-right (bytes_eq name first.name) (list_any-named feed name others place named)

-- a table before one with the name has another name
test-before : (feed : ℕ) (name : List ℕ) (first : TableOf) (others : List TableOf) (place : ℕ)
    → list_any (bytes_eq first.name) (names others) ≡ false
    → is_raw_named feed name (slice_get others place) ≡ true
    → test feed name first ≡ false
test-before feed name first others place absent named =
    elim (cases_Bool (bytes_eq first.name name)) [
      | inl same ↦ absurd (true-false (sym (list_any-named feed name others place named)
          ∙ subst (λ name. list_any (bytes_eq name) (names others) ≡ false)
          ((bytes_eq-Decides first.name name).0 same) absent))
      | inr differ ↦ ap (λ same. same && is_raw_of feed first.kind) differ
    ]

-- the first table that passes the test is the one that does
position_or_len-named : (feed : ℕ) (name : List ℕ) (tables : List TableOf) (place : ℕ)
    → are_different (names tables) ≡ true
    → is_raw_named feed name (slice_get tables place) ≡ true
    → position_or_len (test feed name) tables ≡ place
position_or_len-named feed name [] place different named = absurd cc
position_or_len-named feed name (first ∷ others) zero different named = rw named refl
position_or_len-named feed name (first ∷ others) (suc place) different named =
    let parts =
    and-both (not (list_any (bytes_eq first.name) (names others))) (are_different (names others))
    different in
    rw (test-before feed name first others place (not-true _ parts.0) named)
    (omega (arith, position_or_len-named feed name others place parts.1 named))

-- a table that passes the test is there
named-within : (feed : ℕ) (name : List ℕ) (tables : List TableOf) (place : ℕ)
    → is_raw_named feed name (slice_get tables place) ≡ true → place < length tables
named-within feed name [] place named = absurd cc
named-within feed name (first ∷ others) zero named = omega arith
named-within feed name (first ∷ others) (suc place) named =
    omega (arith, named-within feed name others place named)

-- a table that passes the test is within those of a description
pub is_raw_named-within : (desc : DescOf) (feed : ℕ) (name : List ℕ) (place : ℕ)
    → is_raw_named feed name (slice_get desc.tables place) ≡ true → place < length desc.tables
is_raw_named-within desc feed name place named = named-within feed name desc.tables place named

-- a table that passes the test is found by the name
pub find_raw_table-named : (desc : DescOf) (feed : ℕ) (name : List ℕ) (place : ℕ)
    → IsAccepted desc → is_raw_named feed name (slice_get desc.tables place) ≡ true
    → Some place ≡ find_raw_table desc feed name
find_raw_table-named desc feed name place accepted named =
    let at = position_or_len-named feed name desc.tables place accepted.table_names.different named
    in
    let within = named-within feed name desc.tables place named in
    rw at (grind (arith, common_steps))
