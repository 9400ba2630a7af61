-- What is missed, as the least number of one partition changes.
use Rattle.std.proofs.Common.{◌≡◌, ◌∙◌, ℕ, ◌+◌, ◌<◌, List, ◌∷◌, length, take, get_or, refl, sym, ap, cond}
use Rattle.std.proofs.Common.{inl, inr}
use Rattle.std.specs.Prelude.{All, Bool, true, false, ◌||◌, Option, Some, None, IsSome, is_some}
use Rattle.std.specs.Prelude.{if◌then◌else◌, nat_le}
use Rattle.std.specs.List.{list_any}
use Rattle.std.specs.Map.{lookup}
use Rattle.std.specs.BTreeMap.{is_at}
use Rattle.std.proofs.lemmas.Bool.{cases_Bool, false≢true}
use Rattle.std.proofs.lemmas.List.Folds.{list_any_more}
use Rattle.std.proofs.Math.Bool.{or-false, or_assoc}
use Rattle.partition_map.specs.Partitions.{end_of}
use Rattle.desc_types.specs.declared.table.Key.{Key}
use Rattle.desc_types.specs.Keys.{key_cmp}
use Rattle.view_meaning.specs.declared.aside.Aside.{Aside}
use Rattle.view_meaning.specs.Partitions.{is_key}
use Rattle.view_meaning.specs.RawMarks.{is_missed}
use Rattle.view_meaning.proofs.AmongLemmas.{is_key-same}
use Rattle.depot_marks.specs.Missed.{HasPart, MissedOf, is_found_to, is_least_to, is_missed_to}
use Rattle.depot_marks.specs.Missed.{is_found_in, is_missed_when, part_of_aside}
use Rattle.depot_marks.specs.declared.closings.Closing.{Closing}
use Rattle.depot_marks.specs.Closings.{greatest_at}
use Rattle.depot_marks.proofs.KeyLemmas.{is_at-key_cmp}
use Rattle.depot_marks.proofs.RunLemmas.{entries_at, list_any-entries_at}

-- a partition has a least number, or none, and each other one has what it had
abbrev pub IsUpdate : (key : Key) (least : Option ℕ) (old new : MissedOf) → Type 0
IsUpdate key least old new = (other : Key) → lookup (is_at (key_cmp other)) new
    ≡ cond (is_at (key_cmp key) other) (Some least) (lookup (is_at (key_cmp other)) old)

-- none loses its place
pub HasPart-update : (key : Key) (least : Option ℕ) (old new : MissedOf)
    → IsUpdate key least old new → (other : Key) → HasPart old other → HasPart new other
HasPart-update key least old new updates other has =
    rw (updates other) (each (is_at (key_cmp key) other))
  where
    each : (here : Bool)
        → IsSome (cond here (Some least) (lookup (is_at (key_cmp other)) old))
    each true = refl
    each false = has

-- what is missed of it is by the number that it has now
is_missed_to-update : (key : Key) (least : Option ℕ) (old new : MissedOf)
    → IsUpdate key least old new → (other : Key) (last : ℕ)
    → is_missed_to new other last
    ≡ (if is_key other key then is_least_to least last else is_missed_to old other last)
is_missed_to-update key least old new updates other last =
    ap (λ (found : Option (Option ℕ)). is_found_to found last) (updates other)
    ∙ ap (λ (here : Bool). is_found_to
    (cond here (Some least) (lookup (is_at (key_cmp other)) old)) last) (is_at-key_cmp key other)
    ∙ each (is_key other key)
  where
    each : (here : Bool)
        → is_found_to (cond here (Some least) (lookup (is_at (key_cmp other)) old)) last
        ≡ (if here then is_least_to least last else is_missed_to old other last)
    each true = refl
    each false = refl

-- a place that is taken misses nothing more
pub is_missed_to-place : (key : Key) (old new : MissedOf) → IsUpdate key None old new
    → is_some (lookup (is_at (key_cmp key)) old) ≡ false
    → (other : Key) (last : ℕ) → is_missed_to new other last ≡ is_missed_to old other last
is_missed_to-place key old new updates none other last =
    is_missed_to-update key None old new updates other last
    ∙ elim (cases_Bool (is_key other key)) [
      | inl same ↦ rw (same, ← is_key-same other key same)
          (sym (missing (lookup (is_at (key_cmp key)) old) none))
      | inr apart ↦ rw apart refl
    ]
  where
    missing : (found : Option (Option ℕ)) → is_some found ≡ false → is_found_to found last ≡ false
    missing None none = refl
    missing (Some least) none = absurd (false≢true (sym none))

-- a row that is set aside is missed from its number on
pub is_missed_to-note : (aside : Aside) (had : Option ℕ) (number : ℕ) (old new : MissedOf)
    → IsUpdate (part_of_aside aside) (Some number) old new
    → lookup (is_at (key_cmp (part_of_aside aside))) old ≡ Some had
    → ((last : ℕ) → nat_le number last ≡ (is_least_to had last || nat_le aside.number last))
    → (key : Key) (last : ℕ)
    → is_missed_to new key last ≡ (is_missed_to old key last || is_missed key last aside)
is_missed_to-note aside had number old new updates found least key last =
    let own : Key = part_of_aside aside in
    is_missed_to-update own (Some number) old new updates key last
    ∙ elim (cases_Bool (is_key key own)) [
      | inl same ↦ rw (same, ← is_key-same key own same, found) (least last)
      | inr apart ↦ rw apart (sym (or-false (is_missed_to old key last)))
    ]

-- what was so, or is so for one of the rows so far, is so for one more
pub list_any-step : (was now new : Bool) (test : Aside → Bool) (asides : List Aside) (index : ℕ)
    (default : Aside) → index < length asides → now ≡ (was || list_any test (take index asides))
    → new ≡ (now || test (get_or asides index default))
    → new ≡ (was || list_any test (take (index + 1) asides))
list_any-step was now new test asides index default within before one =
    rw (one, before, list_any_more test asides index default within)
    (or_assoc was (list_any test (take index asides)) (test (get_or asides index default)))

-- nothing that was found is missed
is_found_in-none : (expected : Option ℕ) → is_found_in None expected ≡ false
is_found_in-none None = refl
is_found_in-none (Some last) = refl

-- whether an entry has a least number up to the greatest that was expected of its partition
abbrev pub is_entry_missed : List Closing → (width : ℕ) → Key × Option ℕ → Bool
is_entry_missed closings width entry =
    is_found_in (Some entry.1) (greatest_at closings (end_of width entry.0.part))

-- what is missed at some partitions is what the entries at these tell
pub list_any-missed : (missed : MissedOf) (closings : List Closing) (width : ℕ) (keys : List Key)
    → All (λ entry. lookup (is_at (key_cmp entry.0)) missed ≡ Some entry.1) (entries_at keys missed)
    → list_any (is_entry_missed closings width) (entries_at keys missed)
    ≡ list_any (is_missed_when missed closings width) keys
list_any-missed missed closings width keys found =
    list_any-entries_at
    (λ key least. is_found_in least (greatest_at closings (end_of width key.part))) keys missed
    (λ key. is_found_in-none (greatest_at closings (end_of width key.part))) found

-- an entry that passes a test ends a search
pub list_any-hit : {X : Type 0} (test : X → Bool) (first : X) (xs rest : List X) (answer : Bool)
    → xs ≡ first ∷ rest → test first ≡ true → list_any test xs ≡ answer → true ≡ answer
list_any-hit test first xs rest answer is passes search =
    sym (ap (λ (hit : Bool). hit || list_any test rest) passes)
    ∙ sym (ap (list_any test) is) ∙ search

-- one that does not leaves it to the others
pub list_any-miss : {X : Type 0} (test : X → Bool) (first : X) (xs rest : List X) (answer : Bool)
    → xs ≡ first ∷ rest → test first ≡ false → list_any test xs ≡ answer
    → list_any test rest ≡ answer
list_any-miss test first xs rest answer is fails search =
    sym (ap (λ (hit : Bool). hit || list_any test rest) fails)
    ∙ sym (ap (list_any test) is) ∙ search
