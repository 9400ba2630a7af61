-- Maps by key in which room is made first and used later: a key that has only room stands there
-- with an empty value.
use Rattle.std.specs.Prelude.{◌≡◌, List, Option, IsSome, cond, unwrap_or, if◌then◌else◌}
use Rattle.std.specs.BTreeMap.{is_at}
use Rattle.std.specs.Map.{lookup}
use Rattle.desc_types.specs.declared.table.Key.{Key}
use Rattle.desc_types.specs.Keys.{key_cmp}
use Rattle.view_meaning.specs.Partitions.{is_among}

-- what a map holds at a key, if the key has a place
abbrev pub found_at : {X : Type 0} → List (Key × X) → Key → Option X
found_at entries key = lookup (is_at (key_cmp key)) entries

-- what a map holds at a key, and the empty value if the key has no place
abbrev pub value_in : {X : Type 0} → (empty : X) → List (Key × X) → Key → X
value_in empty entries key = unwrap_or (found_at entries key) empty

-- a key has a place
abbrev pub HasPlace : {X : Type 0} → List (Key × X) → Key → Type 0
HasPlace entries key = IsSome (found_at entries key)

-- a map holds this at a key, and at each other key what it held
abbrev pub IsUpdate : {X : Type 0} → (key : Key) → Option X → (old new : List (Key × X)) → Type 0
IsUpdate key value old new = (other : Key)
    → found_at new other ≡ cond (is_at (key_cmp key) other) value (found_at old other)

-- each key has the value that it had, and none has lost its place
pub record KeepsValues {X : Type 0} (empty : X) (old new : List (Key × X)) : Type 0 where
  pub values : (key : Key) → value_in empty new key ≡ value_in empty old key
  pub places : (key : Key) → HasPlace old key → HasPlace new key

-- the values of these keys were changed, and those of no other; none has lost its place
pub record ChangesEach {X : Type 0} (change : X → X) (empty : X) (keys : List Key)
    (old new : List (Key × X)) : Type 0 where
  pub values : (key : Key) → value_in empty new key
      ≡ (if is_among keys key then change (value_in empty old key) else value_in empty old key)
  pub places : (key : Key) → HasPlace old key → HasPlace new key
