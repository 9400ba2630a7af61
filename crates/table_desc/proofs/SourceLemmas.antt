-- The width and the sources of a table that a line declares.
use Rattle.std.proofs.Common.{◌≡◌, ℕ, zero, suc, ◌≤◌, List, [], ◌∷◌, Option, Some, None, ◌==◌}
use Rattle.std.proofs.Common.{Bool, true, false, length, arith, refl, subst}
use Rattle.std.specs.Prelude.{All, unwrap_or, nat_le, ◌&&◌, ◌||◌, ℤ, pos, neg_ℤ, unsigned_abs}
use Rattle.std.specs.Prelude.{if◌then◌else◌, option_map}
use Rattle.std.specs.List.{list_any}
use Rattle.std.proofs.lemmas.Bool.Decides.{nat_tests}
use Rattle.std.proofs.lemmas.List.Elements.{All-cons, All-nil}
use Rattle.std.proofs.lemmas.Option.{cond_some, option_and_then_some, same_Some}
use Rattle.depot_cell.specs.Numbers.{number_of}
use Rattle.partition_map.specs.declared.time.Span.{Span}
use Rattle.partition_map.specs.Partitions.{is_fitting, SpanFits}
use Rattle.partition_map.specs.Time.{END, IsWidth}
use Rattle.desc_lines.specs.Written.{WrittenKindOf, WrittenSourceOf, Raw, Filter, Group, Join}
use Rattle.desc_types.specs.Descriptions.{DescOf}
use Rattle.desc_types.specs.Lookups.{source_width}
use Rattle.desc_types.specs.Sources.{kind_sources}
use Rattle.desc_causes.specs.Ticks.{read_offset, read_span, read_ticks, read_width, span_between}
use Rattle.desc_causes.specs.Causes.{is_absent, is_odd_span, misfits, sources}
use Rattle.table_desc.specs.Declarations.{declared_filling, declared_source, own_ticks}
use Rattle.desc_types.specs.Accepted.{IsSaidSpan, IsSource}
use Rattle.desc_types.proofs.BoolLemmas.{and-both, not-false, or-none}
use Rattle.desc_types.proofs.ListLemmas.{option_map-some}
use Rattle.table_desc.proofs.LookupLemmas.{SpanFits-fitting, found-within}
use Rattle.table_desc.proofs.LookupLemmas.{table_width-found}
use Rattle.table_desc.proofs.FilledLemmas.{IsEarlier-there}

-- what a word says as a width is one
pub IsWidth-read : (word : List ℕ) (width : ℕ) → read_width word ≡ Some width → IsWidth width
IsWidth-read word width read =
    option_and_then_some _ (number_of word) width read (λ ticks is fits.
    let parts = cond_some (nat_le 1 ticks && nat_le ticks END) ticks width fits in
    let both = and-both (nat_le 1 ticks) (nat_le ticks END) parts.0 in
    record {
      some = grind (arith, nat_tests, parts.1, both.0);
      in_time = grind (arith, nat_tests, parts.1, both.1);
    })

-- a span that fits
SpanFits-read : (width source_width : ℕ) (span : Option Span)
    → is_odd_span width source_width span ≡ false
    → SpanFits width source_width (unwrap_or span own_ticks)
SpanFits-read width source_width None fits = absurd cc
SpanFits-read width source_width (Some span) fits = SpanFits-fitting width source_width span
    (not-false (is_fitting width source_width span) fits)

-- the ticks of an offset with a minus
unsigned_abs-minus : (ticks : ℕ) → unsigned_abs (neg_ℤ (pos ticks)) ≡ ticks
unsigned_abs-minus zero = refl
unsigned_abs-minus (suc ticks) = refl

-- ticks that digits say are not more than there are
read_ticks-le : (word : List ℕ) (ticks : ℕ) → read_ticks word ≡ Some ticks → ticks ≤ END
read_ticks-le word ticks read =
    option_and_then_some _ (number_of word) ticks read (λ number is fits.
    let parts = cond_some (nat_le number END) number ticks fits in
    grind (arith, nat_tests, parts.1, parts.0))

-- nor are those of an offset
read_offset-le : (word : List ℕ) (offset : ℤ) → read_offset word ≡ Some offset
    → unsigned_abs offset ≤ END
read_offset-le [] offset read = absurd cc
read_offset-le (first ∷ rest) offset read = by_sign (first == 45) read
  where
    by_sign : (minus : Bool)
        → (if minus then option_map (λ ticks. neg_ℤ (pos ticks)) (read_ticks rest)
        else option_map pos (read_ticks (first ∷ rest))) ≡ Some offset
        → unsigned_abs offset ≤ END
    by_sign true read = option_map-some (λ ticks. neg_ℤ (pos ticks)) (read_ticks rest) offset read
        (λ ticks there is. subst (λ (number : ℤ). unsigned_abs number ≤ END) is
        (rw (unsigned_abs-minus ticks) (read_ticks-le rest ticks there)))
    by_sign false read = option_map-some pos (read_ticks (first ∷ rest)) offset read
        (λ ticks there is. subst (λ (number : ℤ). unsigned_abs number ≤ END) is
        (read_ticks-le (first ∷ rest) ticks there))

-- so a line can say a span that it says
IsSaidSpan-between : (lo hi : Option ℤ) (span : Span) → span_between lo hi ≡ Some span
    → ((offset : ℤ) → lo ≡ Some offset → unsigned_abs offset ≤ END)
    → ((offset : ℤ) → hi ≡ Some offset → unsigned_abs offset ≤ END) → IsSaidSpan span
IsSaidSpan-between None hi span is lo_le hi_le = absurd cc
IsSaidSpan-between (Some lo) None span is lo_le hi_le = absurd cc
IsSaidSpan-between (Some lo) (Some hi) span is lo_le hi_le =
    subst IsSaidSpan (same_Some _ _ is) (record { lo = lo_le lo refl; hi = hi_le hi refl })

IsSaidSpan-read : (width source_width : ℕ) (lo hi : List ℕ) (span : Option Span)
    → read_span lo hi ≡ span → is_odd_span width source_width span ≡ false
    → IsSaidSpan (unwrap_or span own_ticks)
IsSaidSpan-read width source_width lo hi None read even = absurd cc
IsSaidSpan-read width source_width lo hi (Some span) read even =
    IsSaidSpan-between (read_offset lo) (read_offset hi) span read (read_offset-le lo)
    (read_offset-le hi)

-- a source that is there and fits
IsSource-fits : (desc : DescOf) (width : ℕ) (source : WrittenSourceOf)
    → is_absent desc source ≡ false → misfits desc width source ≡ false
    → IsSource desc (length desc.tables) width (declared_source desc source)
IsSource-fits desc width source there fits =
    let earlier = IsEarlier-there desc source there in
    record {
      earlier = found-within desc source.table earlier;
      fits = rw (table_width-found desc source.table earlier) (SpanFits-read width
          (source_width desc source.table) (read_span source.lo source.hi) fits);
      said = IsSaidSpan-read width (source_width desc source.table) source.lo source.hi
          (read_span source.lo source.hi) refl fits;
    }

-- the sources of a table
pub sources-fit : (desc : DescOf) (width : ℕ) (kind : WrittenKindOf)
    → list_any (is_absent desc) (sources kind) ≡ false
    → list_any (misfits desc width) (sources kind) ≡ false
    → All (IsSource desc (length desc.tables) width)
    (kind_sources (declared_filling desc kind).kind)
sources-fit desc width (Raw feed time columns) there fits =
    All-nil (IsSource desc (length desc.tables) width)
sources-fit desc width (Filter source conds keep) there fits =
    All-cons (IsSource desc (length desc.tables) width) (declared_source desc source) []
    (IsSource-fits desc width source (or-none (is_absent desc source) false there).0
    (or-none (misfits desc width source) false fits).0)
    (All-nil (IsSource desc (length desc.tables) width))
sources-fit desc width (Group source keys aggs) there fits =
    All-cons (IsSource desc (length desc.tables) width) (declared_source desc source) []
    (IsSource-fits desc width source (or-none (is_absent desc source) false there).0
    (or-none (misfits desc width source) false fits).0)
    (All-nil (IsSource desc (length desc.tables) width))
sources-fit desc width (Join left right on) there fits =
    let found = or-none (is_absent desc left) (is_absent desc right || false) there in
    let fit = or-none (misfits desc width left) (misfits desc width right || false) fits in
    All-cons (IsSource desc (length desc.tables) width) (declared_source desc left)
    (declared_source desc right ∷ [])
    (IsSource-fits desc width left found.0 fit.0)
    (All-cons (IsSource desc (length desc.tables) width) (declared_source desc right) []
    (IsSource-fits desc width right (or-none (is_absent desc right) false found.1).0
    (or-none (misfits desc width right) false fit.1).0)
    (All-nil (IsSource desc (length desc.tables) width)))
