-- What it takes for a partition to be settled.
use Rattle.std.proofs.Common.{◌≡◌, ◌∙◌, ℕ, suc, ◌<◌, List, [], refl, sym, ap, arith}
use Rattle.std.specs.Prelude.{Bool, true, false, not, ◌&&◌, All, nat_eq}
use Rattle.std.specs.List.{list_all}
use Rattle.std.specs.Cmp.Lexicographic.{pointwise, bytes_decides}
use Rattle.std.proofs.lemmas.Bool.{not-false, not-true, not_from_false, and_from, and_parts}
use Rattle.std.proofs.lemmas.List.Sums.{AllPass-from_list_all, list_all-from_AllPass}
use Rattle.std.proofs.lemmas.List.Elements.{All-weaker}
use Rattle.desc_types.specs.declared.table.Key.{Key}
use Rattle.desc_types.specs.Descriptions.{DescOf}
use Rattle.view_meaning.specs.declared.journal.Entry.{Entry}
use Rattle.desc_types.specs.Sources.{HasEarlierSources}
use Rattle.view_meaning.specs.Partitions.{sources_of}
use Rattle.view_meaning.specs.Versions.{current, recorded}
use Rattle.view_meaning.specs.Staleness.{is_stale, is_settled, is_settled_within}
use Rattle.view_meaning.proofs.ListLemmas.{list_all-agree}
use Rattle.view_meaning.proofs.SourceLemmas.{sources_of-earlier, within-enough}

-- a partition whose last install recorded the versions that its sources have is not stale
pub is_stale-current : (desc : DescOf) (journal : List Entry) (key : Key)
    → recorded desc journal key ≡ current desc journal key → is_stale desc journal key ≡ false
is_stale-current desc journal key same =
    ap not ((bytes_decides (recorded desc journal key) (current desc journal key)).1 same)

-- and the other way round
pub recorded-current : (desc : DescOf) (journal : List Entry) (key : Key)
    → is_stale desc journal key ≡ false → recorded desc journal key ≡ current desc journal key
recorded-current desc journal key fresh =
    (bytes_decides (recorded desc journal key) (current desc journal key)).0
    (not-false (pointwise nat_eq (recorded desc journal key) (current desc journal key)) fresh)

-- within any two depths that are enough a partition is settled alike
pub is_settled_within-enough : (desc : DescOf) (journal : List Entry) → HasEarlierSources desc
    → (depth more : ℕ) (key : Key) → key.table < depth → key.table < more
    → is_settled_within depth desc journal key ≡ is_settled_within more desc journal key
is_settled_within-enough desc journal earlier =
    within-enough (λ depth key. is_settled_within depth desc journal key)
    (λ below key. not (is_stale desc journal key) && list_all below (sources_of desc key))
    (λ depth key. refl)
    (λ below other key agree. ap (λ (rest : Bool). not (is_stale desc journal key) && rest)
    (list_all-agree below other (sources_of desc key)
    (All-weaker (λ (source : Key). source.table < key.table)
    (λ source. below source ≡ other source) agree (sources_of desc key)
    (sources_of-earlier desc key earlier))))

-- a partition is settled exactly if it is not stale and its sources are settled
pub is_settled-step : (desc : DescOf) (journal : List Entry) (key : Key) → HasEarlierSources desc
    → is_settled desc journal key
    ≡ (not (is_stale desc journal key)
    && list_all (is_settled desc journal) (sources_of desc key))
is_settled-step desc journal key earlier =
    ap (λ (rest : Bool). not (is_stale desc journal key) && rest)
    (list_all-agree (is_settled_within key.table desc journal) (is_settled desc journal)
    (sources_of desc key)
    (All-weaker (λ (source : Key). source.table < key.table)
    (λ source. is_settled_within key.table desc journal source ≡ is_settled desc journal source)
    (λ source before. is_settled_within-enough desc journal earlier key.table (suc source.table)
    source before (omega arith))
    (sources_of desc key) (sources_of-earlier desc key earlier)))

-- a partition that is not stale and whose sources are settled is settled
pub is_settled-sources : (desc : DescOf) (journal : List Entry) (key : Key)
    → HasEarlierSources desc → is_stale desc journal key ≡ false
    → All (λ source. is_settled desc journal source ≡ true) (sources_of desc key)
    → is_settled desc journal key ≡ true
is_settled-sources desc journal key earlier fresh settled =
    is_settled-step desc journal key earlier
    ∙ and_from (not (is_stale desc journal key))
    (list_all (is_settled desc journal) (sources_of desc key))
    (not_from_false (is_stale desc journal key) fresh)
    (list_all-from_AllPass (is_settled desc journal) (sources_of desc key) settled)

-- a settled one is not stale
pub is_stale-settled : (desc : DescOf) (journal : List Entry) (key : Key)
    → HasEarlierSources desc → is_settled desc journal key ≡ true
    → is_stale desc journal key ≡ false
is_stale-settled desc journal key earlier settled =
    not-true (is_stale desc journal key)
    ((and_parts (not (is_stale desc journal key))
    (list_all (is_settled desc journal) (sources_of desc key))
    (sym (is_settled-step desc journal key earlier) ∙ settled)).0)

-- and its sources are settled
pub sources_of-settled : (desc : DescOf) (journal : List Entry) (key : Key)
    → HasEarlierSources desc → is_settled desc journal key ≡ true
    → All (λ source. is_settled desc journal source ≡ true) (sources_of desc key)
sources_of-settled desc journal key earlier settled =
    AllPass-from_list_all (is_settled desc journal) (sources_of desc key)
    ((and_parts (not (is_stale desc journal key))
    (list_all (is_settled desc journal) (sources_of desc key))
    (sym (is_settled-step desc journal key earlier) ∙ settled)).1)

-- a partition without sources is not stale
pub is_stale-no_sources : (desc : DescOf) (journal : List Entry) (key : Key)
    → sources_of desc key ≡ [] → is_stale desc journal key ≡ false
is_stale-no_sources desc journal key none = rw none refl

-- it is settled
pub is_settled-no_sources : (desc : DescOf) (journal : List Entry) (key : Key)
    → sources_of desc key ≡ [] → is_settled desc journal key ≡ true
is_settled-no_sources desc journal key none = rw none refl
