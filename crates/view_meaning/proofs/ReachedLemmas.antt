-- Which partitions rest on one that gained rows: `is_reached-step` says it by the sources of a
-- partition.
use Rattle.std.proofs.Common.{◌≡◌, ℕ, suc, ◌<◌, refl, ap, arith}
use Rattle.std.specs.Prelude.{Bool, ◌||◌}
use Rattle.std.specs.List.{list_any}
use Rattle.std.proofs.lemmas.List.Elements.{All-weaker}
use Rattle.desc_types.specs.declared.table.Key.{Key}
use Rattle.desc_types.specs.Descriptions.{DescOf}
use Rattle.desc_types.specs.Sources.{HasEarlierSources}
use Rattle.view_meaning.specs.Partitions.{sources_of}
use Rattle.view_meaning.specs.Reached.{is_reached, is_reached_within}
use Rattle.view_meaning.proofs.ListLemmas.{list_any-agree}
use Rattle.view_meaning.proofs.SourceLemmas.{sources_of-earlier, within-enough}

-- whether a partition gained rows, or one of its sources passes a test
abbrev reached_above : DescOf → (gained : Key → Bool) → (Key → Bool) → Key → Bool
reached_above desc gained below key = gained key || list_any below (sources_of desc key)

-- tests that agree on earlier tables do so one table further
reached_above-agree : (desc : DescOf) (gained : Key → Bool) → HasEarlierSources desc
    → (below other : Key → Bool) (key : Key)
    → ((source : Key) → source.table < key.table → below source ≡ other source)
    → reached_above desc gained below key ≡ reached_above desc gained other key
reached_above-agree desc gained earlier below other key agree =
    ap (λ (rest : Bool). gained key || rest)
    (list_any-agree below other (sources_of desc key)
    (All-weaker (λ (source : Key). source.table < key.table)
    (λ source. below source ≡ other source) agree (sources_of desc key)
    (sources_of-earlier desc key earlier)))

-- any depth that is enough tells whether a partition is reached
is_reached_within-enough : (desc : DescOf) (gained : Key → Bool) → HasEarlierSources desc
    → (depth : ℕ) (key : Key) → key.table < depth
    → is_reached_within depth desc gained key ≡ is_reached desc gained key
is_reached_within-enough desc gained earlier depth key enough =
    within-enough (λ depth. is_reached_within depth desc gained)
    (reached_above desc gained) (λ _ _. refl) (reached_above-agree desc gained earlier)
    depth (suc key.table) key enough (omega arith)

-- a partition is reached if it gained rows or one of its sources is reached
pub is_reached-step : (desc : DescOf) (gained : Key → Bool) (key : Key)
    → HasEarlierSources desc
    → is_reached desc gained key
    ≡ (gained key || list_any (is_reached desc gained) (sources_of desc key))
is_reached-step desc gained key earlier =
    reached_above-agree desc gained earlier (is_reached_within key.table desc gained)
    (is_reached desc gained) key
    (λ source before. is_reached_within-enough desc gained earlier key.table source before)
