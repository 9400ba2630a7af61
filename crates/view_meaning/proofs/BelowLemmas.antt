-- The raw partitions below a partition: they are of raw tables, and what is true of all of them is
-- true of all below each source.
use Rattle.std.proofs.Common.{◌≡◌, ℕ, zero, suc, [], get_or, inl, inr}
use Rattle.std.specs.Prelude.{true, false, All, slice_get}
use Rattle.std.proofs.lemmas.Bool.{cases_Bool}
use Rattle.std.proofs.lemmas.List.Elements.{All-nil, All-cons, All-head}
use Rattle.desc_types.specs.declared.table.Key.{Key}
use Rattle.desc_types.specs.Descriptions.{DescOf}
use Rattle.view_meaning.specs.Partitions.{sources_of}
use Rattle.view_meaning.specs.RawBelow.{raw_below_within}
use Rattle.view_meaning.specs.Versions.{is_raw}
use Rattle.view_meaning.proofs.ListLemmas.{All-flat_map, All-from_flat_map}

-- what is true of all that is below a raw partition is true of it
pub All-below_raw : (P : Key → Type 0) (depth : ℕ) (desc : DescOf) (key : Key)
    → is_raw (slice_get desc.tables key.table) ≡ true
    → All P (raw_below_within (suc depth) desc key) → P key
All-below_raw P depth desc key raw all = All-head P key [] (rw raw at all)

-- what is true of all that is below another one is true of all that is below its sources
pub All-below_view : (P : Key → Type 0) (depth : ℕ) (desc : DescOf) (key : Key)
    → is_raw (slice_get desc.tables key.table) ≡ false
    → All P (raw_below_within (suc depth) desc key)
    → All (λ source. All P (raw_below_within depth desc source)) (sources_of desc key)
All-below_view P depth desc key view all =
    All-from_flat_map P (raw_below_within depth desc) (sources_of desc key) (rw view at all)

-- all that is below a partition is of raw tables
pub raw_below_within-is_raw : (depth : ℕ) (desc : DescOf) (key : Key)
    → All (λ (raw : Key). is_raw (slice_get desc.tables raw.table) ≡ true)
    (raw_below_within depth desc key)
raw_below_within-is_raw zero desc key =
    All-nil (λ (raw : Key). is_raw (slice_get desc.tables raw.table) ≡ true)
raw_below_within-is_raw (suc depth) desc key =
    let IsRaw : Key → Type 0 = λ (raw : Key). is_raw (slice_get desc.tables raw.table) ≡ true in
    elim (cases_Bool (is_raw (slice_get desc.tables key.table))) [
      | inl raw ↦ rw raw (All-cons IsRaw key [] raw (All-nil IsRaw))
      | inr view ↦ rw view
          (All-flat_map IsRaw (raw_below_within depth desc) (sources_of desc key)
          (λ index default _.
          raw_below_within-is_raw depth desc (get_or (sources_of desc key) index default)))
    ]
