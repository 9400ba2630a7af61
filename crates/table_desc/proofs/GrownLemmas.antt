-- What is so of a description stays so if a feed or a table is added.
use Rattle.std.proofs.Common.{◌≡◌, ℕ, ◌<◌, ◌≤◌, List, [], ◌∷◌, length}
use Rattle.std.proofs.Common.{refl, sym, ap, subst, arith}
use Rattle.std.specs.Prelude.{All, slice_get}
use Rattle.std.proofs.lemmas.List.{length-append}
use Rattle.desc_types.specs.declared.table.Column.{Column}
use Rattle.desc_types.specs.declared.table.Feed.{Feed}
use Rattle.desc_types.specs.declared.view.Src.{Src}
use Rattle.desc_types.specs.Descriptions.{DescOf}
use Rattle.desc_types.specs.Tables.{TableOf}
use Rattle.desc_types.specs.KindValues.{KindOf, Raw, Filter, Group, Join}
use Rattle.desc_types.specs.Sources.{kind_sources, width_of}
use Rattle.desc_types.specs.Lookups.{columns_of, table_columns}
use Rattle.table_desc.specs.Declarations.{with_feed, with_table}
use Rattle.desc_types.specs.Accepted.{IsFilter, IsGroup, IsJoin, IsKind, IsSource, IsTable}
use Rattle.desc_types.proofs.ListLemmas.{slice_get-push}

-- a description that has the feeds of another one, and its tables below a number
pub record Grows (tables : ℕ) (desc more : DescOf) : Type 0 where
  pub feeds : length desc.feeds ≤ length more.feeds
  pub same : (number : ℕ) → number < tables
      → slice_get more.tables number ≡ slice_get desc.tables number

-- one more feed, and one more table
pub Grows-feed : (desc : DescOf) (feed : Feed) → Grows (length desc.tables) desc (with_feed desc feed)
Grows-feed desc feed = record {
  feeds = omega (arith, length-append desc.feeds (feed ∷ []));
  same = λ number within. refl;
}

pub Grows-table : (desc : DescOf) (table : TableOf)
    → Grows (length desc.tables) desc (with_table desc table)
Grows-table desc table = record {
  feeds = omega arith;
  same = λ number within. slice_get-push desc.tables table number within;
}

-- a source stays one
IsSource-more : (tables : ℕ) (desc more : DescOf) (number width : ℕ) (source : Src)
    → Grows tables desc more → number ≤ tables → IsSource desc number width source
    → IsSource more number width source
IsSource-more tables desc more number width source grows few is = record {
  earlier = is.earlier;
  fits = rw (ap width_of (grows.same source.table (omega (arith, is.earlier)))) is.fits;
  said = is.said;
}

-- the columns of a source stay
table_columns-more : (tables : ℕ) (desc more : DescOf) (number width : ℕ) (source : Src)
    → Grows tables desc more → number ≤ tables → IsSource desc number width source
    → table_columns desc source.table ≡ table_columns more source.table
table_columns-more tables desc more number width source grows few is =
    ap columns_of (sym (grows.same source.table (omega (arith, is.earlier))))

-- what fills a table stays
IsKind-more : (tables : ℕ) (desc more : DescOf) (number width : ℕ) (columns : List Column)
    (kind : KindOf) → Grows tables desc more → number ≤ tables
    → All (IsSource desc number width) (kind_sources kind)
    → IsKind desc columns kind → IsKind more columns kind
IsKind-more tables desc more number width columns (Raw feed time) grows few sources is = record {
  declared = omega (arith, grows.feeds, is.declared);
  int = is.int;
  named = is.named;
}
IsKind-more tables desc more number width columns (Filter source conds keep) grows few sources is =
    subst (λ (from : List Column). IsFilter from columns conds keep)
    (table_columns-more tables desc more number width source grows few
    (sources 0 source (omega arith))) is
IsKind-more tables desc more number width columns (Group source keys aggs) grows few sources is =
    subst (λ (from : List Column). IsGroup from columns keys aggs)
    (table_columns-more tables desc more number width source grows few
    (sources 0 source (omega arith))) is
IsKind-more tables desc more number width columns (Join left right on) grows few sources is =
    subst (λ (from : List Column). IsJoin from (table_columns more right.table) columns on)
    (table_columns-more tables desc more number width left grows few
    (sources 0 left (omega arith)))
    (subst (λ (from : List Column). IsJoin (table_columns desc left.table) from columns on)
    (table_columns-more tables desc more number width right grows few
    (sources 1 right (omega arith))) is)

-- a table stays one
pub IsTable-more : (tables : ℕ) (desc more : DescOf) (number : ℕ) (table : TableOf)
    → Grows tables desc more → number ≤ tables → IsTable desc number table
    → IsTable more number table
IsTable-more tables desc more number table grows few is = record {
  some = is.some;
  few = is.few;
  named = is.named;
  different = is.different;
  width = is.width;
  sources = λ index default within. IsSource-more tables desc more number table.width _ grows few
      (is.sources index default within);
  kind = IsKind-more tables desc more number table.width table.columns table.kind grows few
      is.sources is.kind;
}
