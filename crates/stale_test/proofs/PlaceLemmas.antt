-- Maps by key as values are put in: what they tell, and which keys have a place.
use Rattle.std.proofs.Common.{◌≡◌, ◌∙◌, ℕ, ◌+◌, ◌<◌, List, [], ◌∷◌, length, take, get_or}
use Rattle.std.proofs.Common.{refl, sym, ap, subst}
use Rattle.std.specs.Prelude.{Bool, true, false, cond, ◌||◌, Some, None, IsSome, Option, All}
use Rattle.std.specs.Prelude.{is_some, unwrap_or, if◌then◌else◌}
use Rattle.std.specs.BTreeMap.{is_at}
use Rattle.std.proofs.lemmas.Bool.{false≢true}
use Rattle.std.proofs.Math.Bool.{or-false}
use Rattle.std.proofs.lemmas.List.{take_more}
use Rattle.std.proofs.lemmas.List.Elements.{All-push, All-weaker}
use Rattle.std.proofs.lemmas.List.Folds.{list_any_more}
use Rattle.desc_types.specs.declared.table.Key.{Key}
use Rattle.desc_types.specs.Keys.{key_cmp}
use Rattle.view_meaning.specs.Partitions.{is_among, is_key}
use Rattle.view_meaning.proofs.AmongLemmas.{is_key-same}
use Rattle.stale_test.specs.Places.{ChangesEach, HasPlace, IsUpdate, KeepsValues, found_at}
use Rattle.stale_test.specs.Places.{value_in}
use Rattle.stale_test.proofs.OrderLemmas.{is_at-is_key}

-- what a test picks may be replaced by what is the same if the test passes
cond-same : {X : Type 0} (test : Bool) (x y other : X) → (test ≡ true → x ≡ y)
    → cond test x other ≡ cond test y other
cond-same true x y other same = same refl
cond-same false x y other same = refl

-- a value that is put in is told at its key, and at each other key what was told
value_in-update : {X : Type 0} (empty : X) (key other : Key) (value : Option X)
    (old new : List (Key × X)) → IsUpdate key value old new
    → value_in empty new other
    ≡ cond (is_at (key_cmp key) other) (unwrap_or value empty) (value_in empty old other)
value_in-update {X = X} empty key other value old new updates =
    ap (λ (found : Option X). unwrap_or found empty) (updates other)
    ∙ at (is_at (key_cmp key) other)
  where
    at : (here : Bool) → unwrap_or (cond here value (found_at old other)) empty
        ≡ cond here (unwrap_or value empty) (value_in empty old other)
    at true = refl
    at false = refl

-- a place stays as a value is put in
HasPlace-update : {X : Type 0} (key other : Key) (value : X) (old new : List (Key × X))
    → IsUpdate key (Some value) old new → HasPlace old other → HasPlace new other
HasPlace-update key other value old new updates place =
    rw (updates other) (at (is_at (key_cmp key) other))
  where
    at : (here : Bool) → IsSome (cond here (Some value) (found_at old other))
    at true = refl
    at false = place

-- at a key without a place a map tells the empty value
value_in-none : {X : Type 0} (empty : X) (found : Option X) → is_some found ≡ false
    → unwrap_or found empty ≡ empty
value_in-none empty None none = refl
value_in-none empty (Some value) none = absurd (false≢true (sym none))

-- a place that is put in tells what was told without it
pub KeepsValues-put : {X : Type 0} (empty : X) (key : Key) (old new : List (Key × X))
    → is_some (found_at old key) ≡ false → IsUpdate key (Some empty) old new
    → KeepsValues empty old new
KeepsValues-put {X = X} empty key old new none updates = record {
  values = λ other. value_in-update empty key other (Some empty) old new updates
      ∙ ap (λ (here : Bool). cond here empty (value_in empty old other)) (is_at-is_key key other)
      ∙ at (is_key other key) other refl;
  places = λ other. HasPlace-update key other empty old new updates;
}
  where
    at : (here : Bool) (other : Key) → is_key other key ≡ here
        → cond here empty (value_in empty old other) ≡ value_in empty old other
    at true other same =
        sym (value_in-none empty (found_at old other)
        (subst (λ (key : Key). is_some (found_at old key) ≡ false) (is_key-same other key same)
        none))
    at false other same = refl

-- nothing is lost from step to step
pub KeepsValues-step : {X : Type 0} (empty : X) (old now new : List (Key × X))
    → KeepsValues empty old now → KeepsValues empty now new → KeepsValues empty old new
KeepsValues-step empty old now new before after = record {
  values = λ key. after.values key ∙ before.values key;
  places = λ key place. after.places key (before.places key place);
}

-- one key more has a place
pub HasPlace-take : {X : Type 0} (empty : X) (old new : List (Key × X)) (keys : List Key)
    (index : ℕ) (default : Key) → index < length keys → KeepsValues empty old new
    → All (HasPlace old) (take index keys) → HasPlace new (get_or keys index default)
    → All (HasPlace new) (take (index + 1) keys)
HasPlace-take empty old new keys index default within kept before next =
    subst (All (HasPlace new)) (sym (take_more keys index default within))
    (All-push (HasPlace new) (take index keys) (get_or keys index default)
    (All-weaker (HasPlace old) (HasPlace new) kept.places (take index keys) before) next)

-- a value that is changed at its key
value_in-change : {X : Type 0} (change : X → X) (empty : X) (key other : Key)
    (old new : List (Key × X)) → IsUpdate key (Some (change (value_in empty old key))) old new
    → value_in empty new other
    ≡ cond (is_key other key) (change (value_in empty old other)) (value_in empty old other)
value_in-change {X = X} change empty key other old new updates =
    let value = change (value_in empty old key) in
    let was = value_in empty old other in
    value_in-update empty key other (Some value) old new updates
    ∙ ap (λ (here : Bool). cond here value was) (is_at-is_key key other)
    ∙ cond-same (is_key other key) value (change was) was (λ same.
    ap (λ (key : Key). change (value_in empty old key)) (is_key-same other key same))

-- the value of one key was changed
pub ChangesEach-one : {X : Type 0} (change : X → X) (empty : X) (key : Key)
    (old new : List (Key × X)) → IsUpdate key (Some (change (value_in empty old key))) old new
    → ChangesEach change empty (key ∷ []) old new
ChangesEach-one change empty key old new updates = record {
  values = λ other. value_in-change change empty key other old new updates
      ∙ ap (λ (here : Bool). cond here (change (value_in empty old other))
      (value_in empty old other)) (sym (or-false (is_key other key)));
  places = λ other. HasPlace-update key other (change (value_in empty old key)) old new updates;
}

-- a change of what may have been changed before
change-again : {X : Type 0} (change : X → X) (value : X) (here among : Bool)
    → change (change value) ≡ change value
    → cond here (change (if among then change value else value))
    (if among then change value else value)
    ≡ (if among || here then change value else value)
change-again change value true true twice = twice
change-again change value true false twice = refl
change-again change value false true twice = refl
change-again change value false false twice = refl

-- the value of one key more was changed. One that is changed twice is as if it was changed once
pub ChangesEach-take : {X : Type 0} (change : X → X) (empty : X) (start old new : List (Key × X))
    (keys : List Key) (index : ℕ) (default : Key) → index < length keys
    → ((value : X) → change (change value) ≡ change value)
    → ChangesEach change empty (take index keys) start old
    → IsUpdate (get_or keys index default)
    (Some (change (value_in empty old (get_or keys index default)))) old new
    → ChangesEach change empty (take (index + 1) keys) start new
ChangesEach-take {X = X} change empty start old new keys index default within twice before updates =
    let next : Key = get_or keys index default in
    record {
      values = λ key.
          let was = value_in empty start key in
          value_in-change change empty next key old new updates
          ∙ ap (λ (now : X). cond (is_key key next) (change now) now) (before.values key)
          ∙ change-again change was (is_key key next) (is_among (take index keys) key) (twice was)
          ∙ ap (λ (among : Bool). if among then change was else was)
          (sym (list_any_more (is_key key) keys index default within));
      places = λ key place. HasPlace-update next key (change (value_in empty old next)) old new
          updates (before.places key place);
    }

-- a key that is among them has its value changed
pub value_in-changed : {X : Type 0} (change : X → X) (empty : X) (keys : List Key) (key : Key)
    (old new : List (Key × X)) → ChangesEach change empty keys old new
    → is_among keys key ≡ true → value_in empty new key ≡ change (value_in empty old key)
value_in-changed change empty keys key old new changes among =
    changes.values key
    ∙ ap (λ (here : Bool). if here then change (value_in empty old key) else value_in empty old key)
    among

-- one that is not has the value that it had
pub value_in-kept : {X : Type 0} (change : X → X) (empty : X) (keys : List Key) (key : Key)
    (old new : List (Key × X)) → ChangesEach change empty keys old new
    → is_among keys key ≡ false → value_in empty new key ≡ value_in empty old key
value_in-kept change empty keys key old new changes other =
    changes.values key
    ∙ ap (λ (here : Bool). if here then change (value_in empty old key) else value_in empty old key)
    other
