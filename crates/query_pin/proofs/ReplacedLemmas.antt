-- What the first place with an entry, from a version on, tells of the versions that were replaced.
use Rattle.std.proofs.Common.{◌≡◌, ◌∙◌, ℕ, sym, refl}
use Rattle.std.specs.Prelude.{Bool, Option, Some, None}
use Rattle.std.specs.List.{find}
use Rattle.std.specs.BTreeMap.{BTreeMap, IsOrdered}
use Rattle.std.specs.BTreeMap.Range.{IsEntryInRange, IsRangeOf, entries_between, range_contains}
use Rattle.std.specs.declared.ops.Bound.TheVariants.{Included, Unbounded}
use Rattle.std.proofs.lemmas.Map.Views.{range_contains-from_IsInRange}
use Rattle.query_pin.specs.declared.input.Input.{Input}
use Rattle.query_pin.specs.Inputs.{input_cmp}
use Rattle.query_pin.specs.Kept.{IsFrom, ReplacedList, replaced_at}
use Rattle.query_pin.specs.Held.{IsFirstFrom}
use Rattle.query_pin.proofs.FirstLemmas.{find-All, find-filter, is_told, told_at-found}
use Rattle.query_pin.proofs.FirstLemmas.{told_at-none}
use Rattle.query_pin.proofs.OrderLemmas.{input_cmp-same, input_cmp-total}

-- whether a version is not before another, as a range of a map tests it
abbrev is_in_range : Input → Input → Bool
is_in_range from = range_contains input_cmp (Included from) Unbounded

-- the places of versions from one on, as a range of a map gives them
abbrev pub places_from : (from : Input) → ReplacedList → ReplacedList
places_from from replaced = entries_between input_cmp (Included from) Unbounded replaced

-- where no place from a version on tells anything, none of those versions was replaced
pub replaced_at-none : (replaced : ReplacedList) (from : Input)
    → find is_told (places_from from replaced) ≡ None
    → (read : Input) → IsFrom from read → replaced_at replaced read ≡ None
replaced_at-none replaced from none read there =
    told_at-none input_cmp input_cmp-same (is_in_range from) replaced
    (sym (find-filter (λ entry. is_in_range from entry.0) is_told replaced) ∙ none) read
    (range_contains-from_IsInRange input_cmp-total (Included from) Unbounded read
    (there, tt))

-- the first place that tells anything is that of the first replaced version
pub IsFirstFrom-found : (map : BTreeMap Input (Option ℕ)) (from read : Input) (entry : ℕ)
    → IsOrdered input_cmp map
    → IsRangeOf input_cmp (Included from) Unbounded map (places_from from map.entries)
    → find is_told (places_from from map.entries) ≡ Some (read, Some entry)
    → IsFirstFrom map.entries from
    (record { key = read.key; version = read.version; entry = entry })
IsFirstFrom-found map from read entry ordered within found =
    let there = find-All (IsEntryInRange input_cmp (Included from) Unbounded map) is_told
    (places_from from map.entries) (read, Some entry) within.0 found in
    record {
      entry = rw there.1 refl;
      not_before = there.0.0;
      first = λ other after told. told_at-found input_cmp input_cmp-total input_cmp-same
          (is_in_range from) map.entries ordered (read, Some entry)
          (sym (find-filter (λ place. is_in_range from place.0) is_told map.entries) ∙ found) other
          (range_contains-from_IsInRange input_cmp-total (Included from) Unbounded other
          (after, tt)) told;
    }
