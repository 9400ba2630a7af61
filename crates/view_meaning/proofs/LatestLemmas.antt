-- What a view makes of the latest versions of its sources.
use Rattle.std.proofs.Common.{◌≡◌, ◌∙◌, ℕ, suc, ◌<◌, List, refl, arith, get_or, inl, inr}
use Rattle.std.specs.Prelude.{Option, Some, None, All, true, slice_get}
use Rattle.std.proofs.lemmas.Bool.{cases_Bool}
use Rattle.std.proofs.lemmas.List.Elements.{All-weaker}
use Rattle.std.proofs.lemmas.List.Sums.{AllPass-from_list_all}
use Rattle.depot_cell.specs.declared.cell.Cell.{Cell}
use Rattle.desc_types.specs.declared.table.Key.{Key}
use Rattle.desc_types.specs.Deliveries.{DeliveryOf}
use Rattle.desc_types.specs.Descriptions.{DescOf}
use Rattle.desc_types.specs.Sources.{HasEarlierSources}
use Rattle.desc_types.specs.Tables.{TableOf}
use Rattle.view_meaning.specs.declared.journal.Entry.{Entry}
use Rattle.view_meaning.specs.Contents.{HasValuesOfLatest, latest_content}
use Rattle.view_meaning.specs.Journal.{accepted}
use Rattle.view_meaning.specs.Partitions.{keys_below, sources_of}
use Rattle.view_meaning.specs.Staleness.{is_settled}
use Rattle.view_meaning.specs.Values.{value_over, value_within}
use Rattle.view_meaning.specs.Versions.{is_raw_kind}
use Rattle.view_meaning.proofs.ContentLemmas.{made_of-joined, settled_values}
use Rattle.view_meaning.proofs.SourceLemmas.{sources_of-earlier, within-enough}

-- the value is the same over source partitions with the same rows
pub value_over-agree : (desc : DescOf) (accepted : List DeliveryOf)
    (rows other : Key → List (List Cell)) (key : Key) (found : Option TableOf)
    → All (λ source. rows source ≡ other source) (keys_below desc key.part found)
    → value_over desc accepted rows key found ≡ value_over desc accepted other key found
value_over-agree desc accepted rows other key None agree = refl
value_over-agree desc accepted rows other key (Some table) agree =
    elim (cases_Bool (is_raw_kind table.kind)) [
      | inl raw ↦ rw raw refl
      | inr view ↦ rw view (made_of-joined desc rows other table key.part agree)
    ]

-- within any two depths that are enough a partition has one value
value_within-enough : (desc : DescOf) (accepted : List DeliveryOf) → HasEarlierSources desc
    → (depth more : ℕ) (key : Key) → key.table < depth → key.table < more
    → value_within depth desc accepted key ≡ value_within more desc accepted key
value_within-enough desc accepted earlier =
    within-enough (λ depth key. value_within depth desc accepted key)
    (λ below key. value_over desc accepted below key (slice_get desc.tables key.table))
    (λ depth key. refl)
    (λ below other key agree. value_over-agree desc accepted below other key
    (slice_get desc.tables key.table)
    (All-weaker (λ (source : Key). source.table < key.table)
    (λ source. below source ≡ other source) agree (sources_of desc key)
    (sources_of-earlier desc key earlier)))

-- the latest version of a settled source holds its value, at the depth of the partition that
-- reads it
latest_content-source : (desc : DescOf) (journal : List Entry) (key source : Key)
    → HasEarlierSources desc → is_settled desc journal source ≡ true → source.table < key.table
    → latest_content desc journal source
    ≡ value_within key.table desc (accepted journal) source
latest_content-source desc journal key source earlier settled before =
    settled_values desc journal source settled
    ∙ value_within-enough desc (accepted journal) earlier (suc source.table) key.table source
    (omega arith) before

pub values_of_latest : HasValuesOfLatest
values_of_latest desc journal key earlier settled =
    value_over-agree desc (accepted journal) (latest_content desc journal)
    (value_within key.table desc (accepted journal)) key (slice_get desc.tables key.table)
    (λ index default within.
    latest_content-source desc journal key (get_or (sources_of desc key) index default) earlier
    (settled_sources index default within)
    (sources_of-earlier desc key earlier index default within))
  where
    settled_sources : All (λ source. is_settled desc journal source ≡ true) (sources_of desc key)
    settled_sources =
        AllPass-from_list_all (is_settled desc journal) (sources_of desc key) settled
