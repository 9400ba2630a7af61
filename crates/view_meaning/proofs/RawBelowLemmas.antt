-- A partition is reached exactly if one of the raw partitions below it gained rows:
-- `is_reached-raw_below`.
use Rattle.std.proofs.Common.{◌≡◌, ◌∙◌, ℕ, zero, suc, refl, sym, inl, inr, get_or}
use Rattle.std.specs.Prelude.{Bool, true, false, slice_get}
use Rattle.std.specs.List.{list_any}
use Rattle.std.proofs.lemmas.Bool.{both_ways, cases_Bool, false_from_ne_true}
use Rattle.desc_types.specs.declared.table.Key.{Key}
use Rattle.desc_types.specs.Descriptions.{DescOf}
use Rattle.view_meaning.specs.Partitions.{sources_of}
use Rattle.view_meaning.specs.Versions.{is_raw}
use Rattle.view_meaning.specs.Reached.{is_reached, is_reached_within}
use Rattle.view_meaning.specs.RawBelow.{raw_below, raw_below_within}
use Rattle.view_meaning.proofs.KeyLemmas.{sources_of-raw}
use Rattle.view_meaning.proofs.ListLemmas.{list_any-agree, list_any-flat_map}

-- only partitions of raw tables gained rows
abbrev pub AreRaw : DescOf → (gained : Key → Bool) → Type 0
AreRaw desc gained =
    (key : Key) → gained key ≡ true → is_raw (slice_get desc.tables key.table) ≡ true

-- so one of another table did not
gained-view : (desc : DescOf) (gained : Key → Bool) (key : Key) → AreRaw desc gained
    → is_raw (slice_get desc.tables key.table) ≡ false → gained key ≡ false
gained-view desc gained key raw view =
    false_from_ne_true (gained key) (λ did.
    both_ways (is_raw (slice_get desc.tables key.table)) view (raw key did))

-- within any depth a partition is reached exactly if one of the raw partitions below it gained rows
is_reached_within-raw_below : (depth : ℕ) (desc : DescOf) (gained : Key → Bool) (key : Key)
    → AreRaw desc gained
    → is_reached_within depth desc gained key
    ≡ list_any gained (raw_below_within depth desc key)
is_reached_within-raw_below zero desc gained key raw = refl
is_reached_within-raw_below (suc depth) desc gained key raw =
    elim (cases_Bool (is_raw (slice_get desc.tables key.table))) [
      | inl is ↦ rw (is, sources_of-raw desc key is) refl
      | inr view ↦ rw (view, gained-view desc gained key raw view)
          (list_any-agree (is_reached_within depth desc gained)
          (λ source. list_any gained (raw_below_within depth desc source)) (sources_of desc key)
          (λ index default _. is_reached_within-raw_below depth desc gained
          (get_or (sources_of desc key) index default) raw)
          ∙ sym (list_any-flat_map gained (raw_below_within depth desc) (sources_of desc key)))
    ]

-- a partition is reached exactly if one of the raw partitions below it gained rows
pub is_reached-raw_below : (desc : DescOf) (gained : Key → Bool) (key : Key) → AreRaw desc gained
    → is_reached desc gained key ≡ list_any gained (raw_below desc key)
is_reached-raw_below desc gained key = is_reached_within-raw_below (suc key.table) desc gained key
