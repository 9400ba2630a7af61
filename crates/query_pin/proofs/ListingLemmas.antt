-- Held versions as they are put into one map, and as a list.
use Rattle.std.proofs.Common.{◌≡◌, ◌∙◌, ℕ, List, [], ◌∷◌, refl, ap, inl, inr}
use Rattle.std.specs.Prelude.{Option, Some, None, if◌then◌else◌, map}
use Rattle.std.specs.List.{AllByRecursion}
use Rattle.std.specs.List.Sorted.{IsStrictlySortedBy}
use Rattle.std.specs.Map.{keys_of}
use Rattle.std.specs.Option.{option_or}
use Rattle.std.specs.declared.cmp.Ordering.{Ordering}
use Rattle.std.specs.declared.cmp.Ordering.TheVariants.{Less}
use Rattle.std.proofs.lemmas.Bool.{cases_Bool}
use Rattle.desc_types.specs.declared.table.Key.{Key}
use Rattle.desc_types.specs.Keys.{key_cmp}
use Rattle.view_meaning.specs.Partitions.{is_key}
use Rattle.query_pin.specs.declared.input.Input.{Input}
use Rattle.query_pin.specs.declared.newest.Newest.{Newest}
use Rattle.query_pin.specs.Inputs.{input_cmp, is_version}
use Rattle.query_pin.specs.Kept.{NewestList, ReplacedList, entry_at, newest_at, newest_entry_or}
use Rattle.query_pin.specs.Kept.{KeptListOf, entry_in, replaced_at, told_at}
use Rattle.query_pin.specs.Held.{IsListOf, dead_of, version_of}
use Rattle.query_pin.proofs.OrderLemmas.{input_cmp-same, is_at-input_cmp, is_at-key_cmp}
use Rattle.query_pin.proofs.OrderLemmas.{key_cmp-same}

-- a key before all of a list is told nothing of
told_at-before : {K X : Type 0} (cmp : K → K → Ordering) (key : K) (list : List (K × Option X))
    → AllByRecursion (λ other. cmp key other ≡ Less) (keys_of list) → told_at cmp list key ≡ None
told_at-before cmp key [] before = refl
told_at-before cmp key (first ∷ later) before =
    rw before.0 (told_at-before cmp key later before.1)

-- the first key of a sorted list is told nothing of in the rest
told_at-rest : {K X : Type 0} (cmp : K → K → Ordering) (first : K) (later : List (K × Option X))
    → IsStrictlySortedBy cmp (first ∷ keys_of later) → told_at cmp later first ≡ None
unfolding IsStrictlySortedBy
told_at-rest cmp first later sorted = told_at-before cmp first later sorted.0

-- a replaced version is put into the map, if it has an entry, and need not come any more
pub entry_at-replaced : (first : Input) (entry : Option ℕ) (later : ReplacedList)
    (held next : List (Input × ℕ)) → IsStrictlySortedBy input_cmp (first ∷ keys_of later)
    → ((read : Input) → entry_at next read ≡ (if is_version first read
    then option_or entry (entry_at held read) else entry_at held read))
    → (read : Input) → option_or (replaced_at later read) (entry_at next read)
    ≡ option_or (replaced_at ((first, entry) ∷ later) read) (entry_at held read)
entry_at-replaced first entry later held next sorted puts read =
    elim (cases_Bool (is_version first read)) [
      | inl here ↦
          let at = is_at-input_cmp read first ∙ here in
          rw (
            puts read,
            here,
            at,
            input_cmp-same read first at,
            told_at-rest input_cmp first later sorted,
          ) refl
      | inr apart ↦ rw (puts read, apart, is_at-input_cmp read first, apart) refl
    ]

-- the newest version of a partition is put into the map, and need not come any more
pub entry_at-newest : (first : Key) (newest : Option Newest) (later : NewestList)
    (held next : List (Input × ℕ)) → IsStrictlySortedBy key_cmp (first ∷ keys_of later)
    → ((read : Input) → entry_at next read ≡ (if is_key first read.key
    then newest_entry_or newest read.version (entry_at held read) else entry_at held read))
    → (read : Input)
    → newest_entry_or (newest_at later read.key) read.version (entry_at next read)
    ≡ newest_entry_or (newest_at ((first, newest) ∷ later) read.key) read.version
    (entry_at held read)
entry_at-newest first newest later held next sorted puts read =
    elim (cases_Bool (is_key first read.key)) [
      | inl here ↦
          let at = is_at-key_cmp read.key first ∙ here in
          rw (
            puts read,
            here,
            at,
            key_cmp-same read.key first at,
            told_at-rest key_cmp first later sorted,
          ) refl
      | inr apart ↦ rw (puts read, apart, is_at-key_cmp read.key first, apart) refl
    ]

-- a list of held versions names those of the map
version_of-dead_of : (held : List (Input × ℕ)) → map version_of (map dead_of held) ≡ keys_of held
version_of-dead_of [] = refl
version_of-dead_of (first ∷ later) =
    ap (λ (reads : List Input). first.0 ∷ reads) (version_of-dead_of later)

-- with the entries of the map
entry_of-dead_of : (held : List (Input × ℕ))
    → map (λ dead. (version_of dead, dead.entry)) (map dead_of held) ≡ held
entry_of-dead_of [] = refl
entry_of-dead_of (first ∷ later) =
    ap (λ (held : List (Input × ℕ)). first ∷ held) (entry_of-dead_of later)

-- the versions of a map, as they follow one another in it, are its list
pub IsListOf-dead_of : (held : List (Input × ℕ)) → IsStrictlySortedBy input_cmp (keys_of held)
    → IsListOf (entry_at held) (map dead_of held)
IsListOf-dead_of held sorted = record {
  rising = rw version_of-dead_of sorted;
  exact = λ read. ap (λ (listed : List (Input × ℕ)). entry_at listed read) (entry_of-dead_of held);
}

-- first the replaced versions were put into the map, then the newest: it has all that are held
pub entry_at-held : (kept : KeptListOf) (replaced held : List (Input × ℕ))
    → ((read : Input)
    → entry_at replaced read ≡ option_or (replaced_at kept.replaced read) None)
    → ((read : Input) → entry_at held read
    ≡ newest_entry_or (newest_at kept.newest read.key) read.version (entry_at replaced read))
    → (read : Input) → entry_at held read ≡ entry_in kept read
entry_at-held kept replaced held first second read =
    rw (second read, first read, option_or-none (replaced_at kept.replaced read)) refl
  where
    option_or-none : (found : Option ℕ) → option_or found None ≡ found
    option_or-none None = refl
    option_or-none (Some entry) = refl
