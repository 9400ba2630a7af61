-- The sources of a table of an accepted description, in words: no cause speaks against them.
use Rattle.std.proofs.Common.{◌≡◌, ◌∙◌, ℕ, ◌<◌, ◌%◌, ◌==◌, List, Some, Bool, true, false, not}
use Rattle.std.proofs.Common.{length, map, refl, ap, arith, rules, tests, get_or}
use Rattle.std.specs.Prelude.{All, is_none, slice_get}
use Rattle.std.specs.List.{list_any}
use Rattle.std.specs.Fmt.{decimal}
use Rattle.std.proofs.lemmas.Option.{slice_get_within}
use Rattle.partition_map.specs.declared.time.Span.{Span}
use Rattle.partition_map.specs.Partitions.{SpanFits, is_fitting}
use Rattle.desc_lines.specs.Written.{WrittenSourceOf}
use Rattle.desc_types.specs.declared.table.Column.{Column}
use Rattle.desc_types.specs.declared.view.Src.{Src}
use Rattle.desc_types.specs.Descriptions.{DescOf}
use Rattle.desc_types.specs.KindValues.{Filter, Group, Join, KindOf, Raw}
use Rattle.desc_types.specs.Lookups.{source_columns, source_width, table_columns}
use Rattle.desc_types.specs.Sources.{kind_sources, table_width}
use Rattle.desc_types.specs.Tables.{TableOf}
use Rattle.desc_types.specs.Accepted.{IsAccepted, IsKind, IsSource, IsTable}
use Rattle.desc_causes.specs.Ticks.{read_width}
use Rattle.desc_causes.specs.Causes.{has_bad_span, has_bad_width, is_absent, is_odd_span}
use Rattle.desc_causes.specs.Causes.{is_odd_width, lacks_source, misfits, sources}
use Rattle.table_desc.specs.Canonical.{kind_spelled, source_spelled, table_name}
use Rattle.table_desc.proofs.PrefixLemmas.{find_table-prefix, prefix}
use Rattle.table_desc.proofs.PrefixLemmas.{source_columns-prefix, source_width-prefix}
use Rattle.table_desc.proofs.PrefixLemmas.{table_columns-different}
use Rattle.table_desc.proofs.SpelledNumberLemmas.{read_span-spelled, read_width-decimal}
use Rattle.table_desc.proofs.NoCauseColumnLemmas.{Differ, list_any-map-none}

-- all feeds of a description, and its tables before one
abbrev pub before : DescOf → ℕ → DescOf
before desc number = prefix desc (length desc.feeds) number

-- a table of an accepted description, where it stands, and what fills it
pub record IsPlaced (desc : DescOf) (number : ℕ) (table : TableOf) (kind : KindOf) : Type 0 where
  pub accepted : IsAccepted desc
  pub there : slice_get desc.tables number ≡ Some table
  pub within : number < length desc.tables
  pub is : IsTable desc number table
  pub sources : All (IsSource desc number table.width) (kind_sources kind)
  pub fills : IsKind desc table.columns kind

pub IsPlaced-there : (desc : DescOf) (number : ℕ) (table : TableOf) → IsAccepted desc
    → slice_get desc.tables number ≡ Some table → IsPlaced desc number table table.kind
IsPlaced-there desc number table accepted there = record {
  accepted = accepted;
  there = there;
  within = slice_get_within desc.tables number table there;
  is = accepted.each number table there;
  sources = (accepted.each number table there).sources;
  fills = (accepted.each number table there).kind;
}

-- the sources of a table, in words
sources-spelled : (desc : DescOf) (own : List Column) (kind : KindOf)
    → sources (kind_spelled desc own kind) ≡ map (source_spelled desc) (kind_sources kind)
sources-spelled desc own (Raw feed time) = refl
sources-spelled desc own (Filter source conds keep) = refl
sources-spelled desc own (Group source keys aggs) = refl
sources-spelled desc own (Join left right on) = refl

-- a test of sources fails, if it fails for each
sources-none : (desc : DescOf) (number : ℕ) (table : TableOf) (kind : KindOf)
    (test : WrittenSourceOf → Bool) → IsPlaced desc number table kind
    → ((source : Src) → IsSource desc number table.width source
    → test (source_spelled desc source) ≡ false)
    → list_any test (sources (kind_spelled desc table.columns kind)) ≡ false
sources-none desc number table kind test placed fails =
    ap (list_any test) (sources-spelled desc table.columns kind)
    ∙ list_any-map-none (source_spelled desc) test (IsSource desc number table.width)
    (kind_sources kind) fails placed.sources

-- a source is an earlier table
pub lacks_source-placed : (desc : DescOf) (number : ℕ) (table : TableOf) (kind : KindOf)
    → IsPlaced desc number table kind
    → lacks_source (before desc number) (kind_spelled desc table.columns kind) ≡ false
lacks_source-placed desc number table kind placed =
    sources-none desc number table kind (is_absent (before desc number)) placed
    (λ source is. ap is_none (find_table-prefix desc (length desc.feeds) number source.table
    placed.accepted is.earlier (omega (arith, placed.within))))

-- the width of a source, by its name and by its number
source_width-placed : (desc : DescOf) (number : ℕ) (table : TableOf) (kind : KindOf) (source : Src)
    → IsPlaced desc number table kind → IsSource desc number table.width source
    → source_width (before desc number) (table_name desc source.table)
    ≡ table_width desc source.table
source_width-placed desc number table kind source placed is =
    source_width-prefix desc (length desc.feeds) number source.table placed.accepted is.earlier
    (omega (arith, placed.within))

-- the table's width is a multiple of it
pub has_bad_width-placed : (desc : DescOf) (number : ℕ) (table : TableOf) (kind : KindOf)
    → IsPlaced desc number table kind
    → has_bad_width (before desc number) (read_width (decimal table.width))
    (sources (kind_spelled desc table.columns kind)) ≡ false
has_bad_width-placed desc number table kind placed =
    ap (λ width. has_bad_width (before desc number) width
    (sources (kind_spelled desc table.columns kind)))
    (read_width-decimal table.width placed.is.width)
    ∙ sources-none desc number table kind (is_odd_width (before desc number) table.width) placed
    (λ source is. ap (λ width. not ((table.width % width) == 0))
    (source_width-placed desc number table kind source placed is)
    ∙ ap (λ rest. not (rest == 0)) is.fits.whole)

-- a span that fits passes the test
is_fitting-fits : (width source_width : ℕ) (span : Span) → SpanFits width source_width span
    → is_fitting width source_width span ≡ true
is_fitting-fits width source_width span fits = search (rules, tests)

-- the span of a source fits
misfits-placed : (desc : DescOf) (number : ℕ) (table : TableOf) (kind : KindOf) (source : Src)
    → IsPlaced desc number table kind → IsSource desc number table.width source
    → misfits (before desc number) table.width (source_spelled desc source) ≡ false
misfits-placed desc number table kind source placed is =
    ap (is_odd_span table.width (source_width (before desc number) (table_name desc source.table)))
    (read_span-spelled source.span is.said)
    ∙ ap (λ width. not (is_fitting table.width width source.span))
    (source_width-placed desc number table kind source placed is)
    ∙ ap not (is_fitting-fits table.width (table_width desc source.table) source.span is.fits)

pub has_bad_span-placed : (desc : DescOf) (number : ℕ) (table : TableOf) (kind : KindOf)
    → IsPlaced desc number table kind
    → has_bad_span (before desc number) (read_width (decimal table.width))
    (sources (kind_spelled desc table.columns kind)) ≡ false
has_bad_span-placed desc number table kind placed =
    ap (λ width. has_bad_span (before desc number) width
    (sources (kind_spelled desc table.columns kind)))
    (read_width-decimal table.width placed.is.width)
    ∙ sources-none desc number table kind (misfits (before desc number) table.width) placed
    (λ source. misfits-placed desc number table kind source placed)

-- the columns of a source: its name finds them, and they go by different names
pub record IsKnown (desc : DescOf) (number : ℕ) (source : Src) : Type 0 where
  pub found : source_columns (before desc number) (table_name desc source.table)
      ≡ table_columns desc source.table
  pub differ : Differ (table_columns desc source.table)

-- so it is of each source
pub IsKnown-placed : (desc : DescOf) (number : ℕ) (table : TableOf) (kind : KindOf) (index : ℕ)
    (source : Src)
    → IsPlaced desc number table kind → index < length (kind_sources kind)
    → IsKnown desc number (get_or (kind_sources kind) index source)
IsKnown-placed desc number table kind index source placed there =
    let is = placed.sources index source there in
    let within = placed.within in
    record {
      found = source_columns-prefix desc (length desc.feeds) number _ placed.accepted is.earlier
          (omega (arith, within));
      differ = table_columns-different desc _ placed.accepted (omega (arith, is.earlier, within));
    }
