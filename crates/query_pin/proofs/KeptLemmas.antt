-- What holds of all held versions holds after one more is added.
use Rattle.std.proofs.Common.{◌≡◌, ◌∙◌, ◌<◌, ◌≤◌, ◌^◌, ℕ, arith, refl, inl, inr}
use Rattle.std.specs.Prelude.{◌==◌, ◌⊎◌, Option, Some, None, IsSome}
use Rattle.std.specs.Prelude.{if◌then◌else◌}
use Rattle.std.proofs.lemmas.Bool.{cases_Bool, eqb-true}
use Rattle.desc_types.specs.declared.table.Key.{Key}
use Rattle.view_meaning.specs.Partitions.{is_key}
use Rattle.view_meaning.proofs.AmongLemmas.{is_key-itself, is_key-same}
use Rattle.query_pin.specs.declared.input.Input.{Input}
use Rattle.query_pin.specs.declared.newest.Newest.{Newest}
use Rattle.query_pin.specs.Kept.{IsKeptList, NewestList, ReplacedList, newest_at, newest_entry_or}
use Rattle.query_pin.specs.Kept.{number_of, replaced_at}

-- a version becomes the newest of its partition
abbrev pub PutsNewest : (key : Key) (next : Newest) (old new : NewestList) → Type 0
PutsNewest key next old new = (other : Key)
    → newest_at new other ≡ (if is_key key other then Some next else newest_at old other)

-- what was the newest version of a partition, if there was one, is kept as a replaced one
abbrev pub KeepsNewest : (key : Key) (newest : Option Newest) (old new : ReplacedList) → Type 0
KeepsNewest key newest old new = (other : Input) → replaced_at new other
    ≡ (if is_key key other.key then newest_entry_or newest other.version (replaced_at old other)
    else replaced_at old other)

-- a version with an entry is the newest, or it was found otherwise
newest_entry_or-told : (newest : Option Newest) (version : ℕ) (other : Option ℕ)
    → IsSome (newest_entry_or newest version other)
    → (IsSome newest × (version ≡ number_of newest)) ⊎ IsSome other
newest_entry_or-told None version other told = inr told
newest_entry_or-told (Some newest) version other told =
    elim (cases_Bool (version == newest.version)) [
      | inl same ↦ inl (refl, eqb-true version newest.version same)
      | inr apart ↦ inr (rw apart at told)
    ]

-- a version that is replaced now was so before, or it was the newest
replaced_at-kept : (key : Key) (newest : Option Newest) (old new : ReplacedList)
    → KeepsNewest key newest old new → (read : Input) → IsSome (replaced_at new read)
    → ((read.key ≡ key) × IsSome newest × (read.version ≡ number_of newest))
    ⊎ IsSome (replaced_at old read)
replaced_at-kept key newest old new keeps read told =
    elim (cases_Bool (is_key key read.key)) [
      | inl here ↦
          elim (newest_entry_or-told newest read.version (replaced_at old read)
          (rw (keeps read, here) at told)) [
            | inl was ↦ inl (is_key-same key read.key here, was.0, was.1)
            | inr before ↦ inr before
          ]
      | inr apart ↦ inr (rw (keeps read, apart) at told)
    ]

-- a version becomes the newest of its partition, and the one before it is kept
pub record Adds (key : Key) (next : Newest) (newest next_newest : NewestList)
    (replaced next_replaced : ReplacedList) : Type 0 where
  pub newer : number_of (newest_at newest key) < next.version
  pub small : next.version < 2 ^ 64
  pub puts : PutsNewest key next newest next_newest
  pub keeps : KeepsNewest key (newest_at newest key) replaced next_replaced

-- a partition has the next version as its newest, or the same as before
newest_at-put : (key : Key) (next : Newest) (old new : NewestList) → PutsNewest key next old new
    → (other : Key)
    → (newest_at new other ≡ Some next) ⊎ (newest_at new other ≡ newest_at old other)
newest_at-put key next old new puts other =
    elim (cases_Bool (is_key key other)) [
      | inl here ↦ inl (puts other ∙ rw here refl)
      | inr apart ↦ inr (puts other ∙ rw apart refl)
    ]

-- the number of the newest does not fall
number_of-put : (key : Key) (next : Newest) (old new : NewestList) → PutsNewest key next old new
    → number_of (newest_at old key) < next.version
    → (other : Key) → number_of (newest_at old other) ≤ number_of (newest_at new other)
number_of-put key next old new puts newer other =
    elim (cases_Bool (is_key key other)) [
      | inl here ↦ rw (puts other, here, is_key-same key other here) (omega (arith, newer))
      | inr apart ↦ rw (puts other, apart) (omega arith)
    ]

-- replaced versions are below the newest
below-add : (key : Key) (next : Newest) (newest next_newest : NewestList)
    (replaced next_replaced : ReplacedList) → IsKeptList newest replaced
    → Adds key next newest next_newest replaced next_replaced
    → (read : Input) → IsSome (replaced_at next_replaced read)
    → read.version < number_of (newest_at next_newest read.key)
below-add key next newest next_newest replaced next_replaced is adds read told =
    elim (replaced_at-kept key (newest_at newest key) replaced next_replaced adds.keeps read
    told) [
      | inl was ↦ rw (was.0, was.2, adds.puts key, is_key-itself key) adds.newer
      | inr before ↦ omega (
        arith,
        is.below read before,
        number_of-put key next newest next_newest adds.puts adds.newer read.key,
      )
    ]

-- what holds of all held versions holds still
pub IsKeptList-add : (key : Key) (next : Newest) (newest next_newest : NewestList)
    (replaced next_replaced : ReplacedList) → IsKeptList newest replaced
    → Adds key next newest next_newest replaced next_replaced
    → IsKeptList next_newest next_replaced
IsKeptList-add key next newest next_newest replaced next_replaced is adds =
    let was = replaced_at-kept key (newest_at newest key) replaced next_replaced adds.keeps in
    let now = newest_at-put key next newest next_newest adds.puts in
    record {
      below = below-add key next newest next_newest replaced next_replaced is adds;
      positive = λ read told. elim (was read told) [
        | inl there ↦ rw there.2 (is.newest_positive key there.1)
        | inr before ↦ is.positive read before
      ];
      newest_positive = λ other told. elim (now other) [
        | inl put ↦ rw put (omega (arith, adds.newer))
        | inr same ↦ rw same (is.newest_positive other (rw same at told))
      ];
      small = λ other. elim (now other) [
        | inl put ↦ rw put adds.small
        | inr same ↦ rw same (is.small other)
      ];
    }
