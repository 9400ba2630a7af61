-- The sources of a partition stand in earlier tables. So what goes down from a table to earlier
-- tables is the same within any depth that is enough: `within-enough`.
use Rattle.std.proofs.Common.{◌≡◌, ◌∙◌, ℕ, suc, zero, ◌<◌, refl, sym, arith}
use Rattle.std.specs.Prelude.{Option, Some, None, All, slice_get}
use Rattle.std.proofs.lemmas.List.Elements.{All-map, All-weaker}
use Rattle.desc_types.specs.declared.table.Key.{Key}
use Rattle.desc_types.specs.declared.view.Src.{Src}
use Rattle.desc_types.specs.Descriptions.{DescOf}
use Rattle.desc_types.specs.Tables.{TableOf}
use Rattle.desc_types.specs.Sources.{HasEarlierSources, kind_sources, table_width}
use Rattle.partition_map.specs.Partitions.{source_parts}
use Rattle.view_meaning.specs.Partitions.{keys_below, keys_read, sources_of}
use Rattle.view_meaning.proofs.ListLemmas.{All-flat_map}

-- the partitions read of an earlier table are earlier
keys_read-earlier : (desc : DescOf) (width part number : ℕ) (src : Src) → src.table < number
    → All (λ (source : Key). source.table < number) (keys_read desc width part src)
keys_read-earlier desc width part number src before =
    All-map (λ (source : Key). source.table < number)
    (λ source. record { table = src.table; part = source })
    (source_parts width (table_width desc src.table) src.span part)
    (λ index default within. before)

-- the source partitions of a partition are of earlier tables
pub sources_of-earlier : (desc : DescOf) (key : Key) → HasEarlierSources desc
    → All (λ (source : Key). source.table < key.table) (sources_of desc key)
sources_of-earlier desc key earlier =
    at_table (slice_get desc.tables key.table) (λ table there. earlier key.table table there)
  where
    at_table : (found : Option TableOf)
        → ((table : TableOf) → found ≡ Some table
        → All (λ (src : Src). src.table < key.table) (kind_sources table.kind))
        → All (λ (source : Key). source.table < key.table) (keys_below desc key.part found)
    at_table None before = λ index default within. absurd (omega arith)
    at_table (Some table) before =
        All-flat_map (λ (source : Key). source.table < key.table)
        (keys_read desc table.width key.part) (kind_sources table.kind)
        (All-weaker (λ (src : Src). src.table < key.table)
        (λ src. All (λ (source : Key). source.table < key.table)
        (keys_read desc table.width key.part src))
        (λ src before. keys_read-earlier desc table.width key.part key.table src before)
        (kind_sources table.kind) (before table refl))

-- a step down that looks only at earlier tables gives the same within any two depths that are
-- enough
pub within-enough : {X : Type 0} (within : ℕ → Key → X) (step : (Key → X) → Key → X)
    → ((depth : ℕ) (key : Key) → within (suc depth) key ≡ step (within depth) key)
    → ((below other : Key → X) (key : Key)
    → ((source : Key) → source.table < key.table → below source ≡ other source)
    → step below key ≡ step other key)
    → (depth more : ℕ) (key : Key) → key.table < depth → key.table < more
    → within depth key ≡ within more key
within-enough within step down agrees zero more key enough also = absurd (omega (arith, enough))
within-enough within step down agrees (suc depth) zero key enough also =
    absurd (omega (arith, also))
within-enough within step down agrees (suc depth) (suc more) key enough also =
    down depth key
    ∙ agrees (within depth) (within more) key
    (λ source before. within-enough within step down agrees depth more source
    (omega (arith, before, enough)) (omega (arith, before, also)))
    ∙ sym (down more key)
