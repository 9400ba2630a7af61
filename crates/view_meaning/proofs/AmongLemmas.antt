-- Which keys are among a list, and which stand before others.
use Rattle.std.proofs.Common.{◌≡◌, ◌<◌, ◌≤◌, List, ◌∷◌, get_or, ◌∙◌, refl, subst, inl, inr, arith}
use Rattle.std.specs.Prelude.{true, false, ◌==◌, ◌⊎◌, All}
use Rattle.std.proofs.lemmas.Bool.{and_parts, and_from, eqb-true, eq-eqb, false_from_ne_true}
use Rattle.std.proofs.lemmas.List.Elements.{All-cons}
use Rattle.std.proofs.lemmas.List.Folds.{list_any_none, Any-from_list_any}
use Rattle.desc_types.specs.declared.table.Key.{Key}
use Rattle.view_meaning.specs.Partitions.{is_among, is_key}

-- the key stands before the other: it is of an earlier table, or an earlier partition of the same
abbrev pub IsBefore : Key → Key → Type 0
IsBefore key later =
    (key.table < later.table) ⊎ ((key.table ≡ later.table) × (key.part < later.part))

-- a key is the same as itself
pub is_key-itself : (key : Key) → is_key key key ≡ true
is_key-itself key =
    and_from (key.table == key.table) (key.part == key.part) (eq-eqb key.table key.table refl)
    (eq-eqb key.part key.part refl)

-- keys that the test finds the same are equal
pub is_key-same : (key other : Key) → is_key key other ≡ true → other ≡ key
is_key-same key other same =
    let parts = and_parts (other.table == key.table) (other.part == key.part) same in
    let table : other.table ≡ key.table = eqb-true other.table key.table parts.0 in
    let part : other.part ≡ key.part = eqb-true other.part key.part parts.1 in
    λ i. record { table = table i; part = part i }

-- keys of which one stands before the other are not the same
is_key-before : (key other : Key) → IsBefore key other ⊎ IsBefore other key
    → is_key key other ≡ false
is_key-before key other apart =
    false_from_ne_true (is_key key other) (λ same.
    let parts = and_parts (other.table == key.table) (other.part == key.part) same in
    let table : other.table ≡ key.table = eqb-true other.table key.table parts.0 in
    let part : other.part ≡ key.part = eqb-true other.part key.part parts.1 in
    omega arith)

-- a key that stands before each of the list is not among them
pub is_among-after : (key : Key) (keys : List Key) → All (IsBefore key) keys
    → is_among keys key ≡ false
is_among-after key keys behind =
    list_any_none (is_key key) keys (λ index default within.
    is_key-before key (get_or keys index default) (inl (behind index default within)))

-- nor is a key that stands after each
pub is_among-before : (key : Key) (keys : List Key) → All (λ before. IsBefore before key) keys
    → is_among keys key ≡ false
is_among-before key keys before =
    list_any_none (is_key key) keys (λ index default within.
    is_key-before key (get_or keys index default) (inr (before index default within)))

-- a key stands before those of later tables
pub IsBefore-table : (key : Key) (keys : List Key)
    → All (λ (later : Key). key.table < later.table) keys → All (IsBefore key) keys
IsBefore-table key keys later index default within = inl (later index default within)

-- a key is of no later table than those after it
pub IsBefore-le : (key later : Key) → IsBefore key later → key.table ≤ later.table
IsBefore-le key later before = omega arith

-- a key of an earlier table is not among those from one on
pub is_among-earlier : (source first : Key) (later : List Key) → source.table < first.table
    → All (IsBefore first) later → is_among (first ∷ later) source ≡ false
is_among-earlier source first later before behind =
    is_among-after source (first ∷ later)
    (All-cons (IsBefore source) first later (inl before)
    (λ index default within. inl (omega (
      arith,
      before,
      IsBefore-le first (get_or later index default) (behind index default within),
    ))))

-- what is true of each key of a list is true of one among them
pub All-is_among : (P : Key → Type 0) (keys : List Key) (key : Key) → All P keys
    → is_among keys key ≡ true → P key
All-is_among P keys key all among =
    let found = Any-from_list_any (is_key key) keys among in
    subst P (found.3 ∙ is_key-same key found.1 found.4) (all found.0 found.1 found.2)
