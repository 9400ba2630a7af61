-- The rows of a delivery, as they are sorted run by run: `SortsRows-put` and `SortsRows-none`.
use Rattle.std.proofs.Common.{◌≡◌, ◌∙◌, ℕ, ◌+◌, List, [], ◌∷◌, ◌++◌, length, map, take, drop}
use Rattle.std.proofs.Common.{sym, ap, refl}
use Rattle.std.proofs.Common.{append-nil, arith, length-append}
use Rattle.std.specs.Prelude.{Bool, true, false, not, All, None, Vec, filter, flat_map}
use Rattle.std.specs.List.{list_any}
use Rattle.std.specs.declared.alloc.Global.{Global}
use Rattle.std.proofs.Math.Seq.{take-add}
use Rattle.std.proofs.Math.Bool.{or-false}
use Rattle.std.proofs.lemmas.Grind.{flat_map-append}
use Rattle.std.proofs.lemmas.List.{length-map}
use Rattle.std.proofs.lemmas.List.Concat.{flat_map_single}
use Rattle.std.proofs.lemmas.List.Elements.{All-weaker, filter-append}
use Rattle.desc_types.specs.declared.table.Key.{Key}
use Rattle.desc_types.specs.declared.delivery.DRow.{DRow}
use Rattle.desc_types.specs.Deliveries.{DeliveryOf}
use Rattle.desc_types.specs.Descriptions.{DescOf}
use Rattle.partition_map.proofs.ListLemmas.{filter-all, filter-none}
use Rattle.view_meaning.specs.declared.aside.Aside.{Aside}
use Rattle.view_meaning.specs.Partitions.{key_of}
use Rattle.view_meaning.specs.RawValues.{lies_in}
use Rattle.view_meaning.specs.SetAside.{aside_at, named}
use Rattle.view_meaning.proofs.LateLemmas.{keys_of-found, keys_of-lies_in, named-lies_in}
use Rattle.view_meaning.proofs.ListLemmas.{flat_map-agree}
use Rattle.raw_load.specs.declared.piece.Stretch.{Stretch}
use Rattle.raw_load.specs.declared.sorting.Sorted.{Sorted}
use Rattle.raw_load.specs.Books.{FeedBookOf}
use Rattle.raw_load.specs.Stretches.{LiesNowhere, LiesOnlyIn, TellsRows, run_of}
use Rattle.raw_load.specs.Sorting.{KeepsStretch, NamesLate, NamesStretch, PutsStretch, SortsRows}
use Rattle.raw_load.specs.Sorting.{asides_by, is_closed_by, is_late_by, kept_by, late_by}
use Rattle.raw_load.proofs.CompareLemmas.{is_at-key_cmp-itself}
use Rattle.raw_load.proofs.StretchLemmas.{IsRun, TellsRows-none, TellsRows-run}

-- a row that lies in a partition is late exactly if that is closed
is_late_by-lies_in : (desc : DescOf) (feeds : List FeedBookOf) (key : Key) (row : DRow)
    → lies_in desc key row ≡ true → is_late_by desc feeds row ≡ is_closed_by desc feeds key
is_late_by-lies_in desc feeds key row lies =
    ap (λ (keys : List Key). list_any (is_closed_by desc feeds) keys)
    (keys_of-lies_in desc key row lies)
    ∙ or-false (is_closed_by desc feeds key)

-- a row that lies in no partition is not late
is_late_by-none : (desc : DescOf) (feeds : List FeedBookOf) (row : DRow)
    → LiesNowhere desc row → is_late_by desc feeds row ≡ false
is_late_by-none desc feeds row none =
    ap (λ (keys : List Key). list_any (is_closed_by desc feeds) keys)
    (keys_of-found desc row None (λ part. sym (none (key_of row.table part))))

-- a row that lies in one partition alone lies in it
lies_in-only : (desc : DescOf) (key : Key) (row : DRow) → LiesOnlyIn desc key row
    → lies_in desc key row ≡ true
lies_in-only desc key row only = only key ∙ is_at-key_cmp-itself key

-- so rows of one partition are late alike
is_late_by-run : (desc : DescOf) (feeds : List FeedBookOf) (key : Key) (run : List DRow)
    (late : Bool) → is_closed_by desc feeds key ≡ late → All (LiesOnlyIn desc key) run
    → All (λ row. is_late_by desc feeds row ≡ late) run
is_late_by-run desc feeds key run late closed all =
    All-weaker (LiesOnlyIn desc key) (λ row. is_late_by desc feeds row ≡ late)
    (λ row only.
    is_late_by-lies_in desc feeds key row (lies_in-only desc key row only) ∙ closed) run all

-- what is late alike is kept alike
All-not : (test : DRow → Bool) (late : Bool) (rows : List DRow)
    → All (λ row. test row ≡ late) rows → All (λ row. not (test row) ≡ not late) rows
All-not test late rows all =
    All-weaker (λ row. test row ≡ late) (λ row. not (test row) ≡ not late)
    (λ row same. ap not same) rows all

-- the rows up to the end of a run that pass a test are those before it, then those of the run
filter-run : (test : DRow → Bool) (rows : List DRow) (first count : ℕ)
    → filter test (take (first + count) rows)
    ≡ filter test (take first rows) ++ filter test (run_of rows first count)
filter-run test rows first count =
    ap (λ (all : List DRow). filter test all) (take-add first count rows)
    ∙ filter-append test (take first rows) (run_of rows first count)

-- with all of the run, if all of it passes
filter-run-all : (test : DRow → Bool) (rows : List DRow) (first count : ℕ)
    → All (λ row. test row ≡ true) (run_of rows first count)
    → filter test (take (first + count) rows)
    ≡ filter test (take first rows) ++ run_of rows first count
filter-run-all test rows first count all =
    filter-run test rows first count
    ∙ ap (λ (more : List DRow). filter test (take first rows) ++ more)
    (filter-all test (run_of rows first count) all)

-- and nothing of it, if none does
filter-run-none : (test : DRow → Bool) (rows : List DRow) (first count : ℕ)
    → All (λ row. test row ≡ false) (run_of rows first count)
    → filter test (take (first + count) rows) ≡ filter test (take first rows)
filter-run-none test rows first count none =
    filter-run test rows first count
    ∙ ap (λ (more : List DRow). filter test (take first rows) ++ more)
    (filter-none test (run_of rows first count) none)
    ∙ append-nil (filter test (take first rows))

-- rows that are not late are kept
kept_by-early : (desc : DescOf) (feeds : List FeedBookOf) (rows : List DRow) (first count : ℕ)
    → All (λ row. is_late_by desc feeds row ≡ false) (run_of rows first count)
    → kept_by desc feeds (take (first + count) rows)
    ≡ kept_by desc feeds (take first rows) ++ run_of rows first count
kept_by-early desc feeds rows first count early =
    filter-run-all (λ row. not (is_late_by desc feeds row)) rows first count
    (All-not (is_late_by desc feeds) false (run_of rows first count) early)

-- rows that are late are not
kept_by-late : (desc : DescOf) (feeds : List FeedBookOf) (rows : List DRow) (first count : ℕ)
    → All (λ row. is_late_by desc feeds row ≡ true) (run_of rows first count)
    → kept_by desc feeds (take (first + count) rows) ≡ kept_by desc feeds (take first rows)
kept_by-late desc feeds rows first count late =
    filter-run-none (λ row. not (is_late_by desc feeds row)) rows first count
    (All-not (is_late_by desc feeds) true (run_of rows first count) late)

-- names stay those of the rows that are set aside, if rows that are not late follow
NamesLate-early : (desc : DescOf) (feeds : List FeedBookOf) (number : ℕ) (rows : List DRow)
    (first count : ℕ) (names : List Aside)
    → All (λ row. is_late_by desc feeds row ≡ false) (run_of rows first count)
    → NamesLate desc feeds number (take first rows) names
    → NamesLate desc feeds number (take (first + count) rows) names
NamesLate-early desc feeds number rows first count names early was =
    let same = filter-run-none (is_late_by desc feeds) rows first count early in
    record {
      exact = was.exact ∙ ap (flat_map (named desc number)) (sym same);
      counted = was.counted ∙ ap (λ (late : List DRow). length late) (sym same);
    }

-- the names of rows of one partition
named-run : (desc : DescOf) (key : Key) (number : ℕ) (run : List DRow)
    → All (LiesOnlyIn desc key) run
    → flat_map (named desc number) run ≡ map (λ row. aside_at number row key.part) run
named-run desc key number run all =
    flat_map-agree (named desc number) (λ row. aside_at number row key.part ∷ []) run
    (All-weaker (LiesOnlyIn desc key)
    (λ row. named desc number row ≡ aside_at number row key.part ∷ [])
    (λ row only. named-lies_in desc key number row (lies_in-only desc key row only)) run all)
    ∙ flat_map_single (λ row. aside_at number row key.part) run

-- the names up to the end of a run that is late are those before it, then those of the run
asides_by-late : (desc : DescOf) (feeds : List FeedBookOf) (number : ℕ) (rows : List DRow)
    (first count : ℕ) (key : Key) → IsRun desc rows first count key
    → All (λ row. is_late_by desc feeds row ≡ true) (run_of rows first count)
    → asides_by desc feeds number (take (first + count) rows)
    ≡ asides_by desc feeds number (take first rows)
    ++ map (λ row. aside_at number row key.part) (run_of rows first count)
asides_by-late desc feeds number rows first count key run late =
    ap (flat_map (named desc number))
    (filter-run-all (is_late_by desc feeds) rows first count late)
    ∙ flat_map-append (named desc number) (late_by desc feeds (take first rows))
    (run_of rows first count)
    ∙ ap (λ (more : List Aside). asides_by desc feeds number (take first rows) ++ more)
    (named-run desc key number (run_of rows first count) run.only)

-- the name of a row that is for a partition
abbrev name_in : (number : ℕ) → Key → DRow → Aside
name_in number key row = aside_at number row key.part

-- with them there are as many as rows that are set aside
length-names-late : (desc : DescOf) (feeds : List FeedBookOf) (rows : List DRow)
    (first count number : ℕ) (key : Key) (names : List Aside)
    → All (λ row. is_late_by desc feeds row ≡ true) (run_of rows first count)
    → length names ≡ length (late_by desc feeds (take first rows))
    → length (names ++ map (name_in number key) (run_of rows first count))
    ≡ length (late_by desc feeds (take (first + count) rows))
length-names-late desc feeds rows first count number key names late counted =
    omega (
      arith,
      counted,
      length-append names (map (name_in number key) (run_of rows first count)),
      length-map (run_of rows first count) (name_in number key),
      length-append (late_by desc feeds (take first rows)) (run_of rows first count),
    )
    ∙ ap (λ (late : List DRow). length late)
    (sym (filter-run-all (is_late_by desc feeds) rows first count late))

-- so if rows that are late follow, their names do
NamesLate-late : (desc : DescOf) (feeds : List FeedBookOf) (number : ℕ) (rows : List DRow)
    (first count : ℕ) (key : Key) (names : List Aside) → IsRun desc rows first count key
    → All (λ row. is_late_by desc feeds row ≡ true) (run_of rows first count)
    → NamesLate desc feeds number (take first rows) names
    → NamesLate desc feeds number (take (first + count) rows)
    (names ++ map (name_in number key) (run_of rows first count))
NamesLate-late desc feeds number rows first count key names run late was = record {
  exact = ap (λ (names : List Aside). names
      ++ map (name_in number key) (run_of rows first count)) was.exact
      ∙ sym (asides_by-late desc feeds number rows first count key run late);
  counted = length-names-late desc feeds rows first count number key names late was.counted;
}

-- the names of a slice of a delivery's rows are those of a stretch
pub NamesStretch-slice : (key : Key) (stretch : Stretch) (delivery : DeliveryOf) (old : Sorted)
    (asides : Vec Aside Global) (number many : ℕ) (rows : List DRow)
    → number ≡ delivery.number → rows ≡ delivery.rows → many ≡ stretch.count
    → asides.items ≡ old.asides.items
    ++ map (λ row. aside_at number row key.part) (take many (drop stretch.first rows))
    → NamesStretch key stretch delivery old (record { found = old.found; asides = asides })
NamesStretch-slice key stretch delivery old asides number many rows numbers same all named =
    record { found = refl; asides = rw (numbers, same, all) at named }

-- a run that is late is sorted if it is named
SortsRows-late : (desc : DescOf) (feeds : List FeedBookOf) (delivery : DeliveryOf)
    (first count : ℕ) (key : Key) (old new : Sorted) → IsRun desc delivery.rows first count key
    → All (λ row. is_late_by desc feeds row ≡ true) (run_of delivery.rows first count)
    → NamesStretch key (record { first = first; count = count }) delivery old new
    → SortsRows desc feeds delivery first old
    → SortsRows desc feeds delivery (first + count) new
SortsRows-late desc feeds delivery first count key old new run late names sorts = record {
  kept = rw (names.found, kept_by-late desc feeds delivery.rows first count late) sorts.kept;
  late = rw names.asides
      (NamesLate-late desc feeds delivery.number delivery.rows first count key old.asides.items run
      late sorts.late);
}

-- rows that are not late are sorted if they are told beside those that were kept
SortsRows-early : (desc : DescOf) (feeds : List FeedBookOf) (delivery : DeliveryOf)
    (first count : ℕ) (old new : Sorted)
    → All (λ row. is_late_by desc feeds row ≡ false) (run_of delivery.rows first count)
    → new.asides.items ≡ old.asides.items
    → TellsRows desc delivery.rows (kept_by desc feeds (take first delivery.rows)
    ++ run_of delivery.rows first count) new.found.entries
    → SortsRows desc feeds delivery first old
    → SortsRows desc feeds delivery (first + count) new
SortsRows-early desc feeds delivery first count old new early same tells sorts = record {
  kept = rw (kept_by-early desc feeds delivery.rows first count early) tells;
  late = rw same
      (NamesLate-early desc feeds delivery.number delivery.rows first count old.asides.items early
      sorts.late);
}

-- so is a run that is not, if its stretch is kept
SortsRows-kept : (desc : DescOf) (feeds : List FeedBookOf) (delivery : DeliveryOf)
    (first count : ℕ) (key : Key) (old new : Sorted) → IsRun desc delivery.rows first count key
    → All (λ row. is_late_by desc feeds row ≡ false) (run_of delivery.rows first count)
    → KeepsStretch key (record { first = first; count = count }) old new
    → SortsRows desc feeds delivery first old
    → SortsRows desc feeds delivery (first + count) new
SortsRows-kept desc feeds delivery first count key old new run early keeps sorts =
    SortsRows-early desc feeds delivery first count old new early keeps.asides
    (TellsRows-run desc delivery.rows (kept_by desc feeds (take first delivery.rows)) first count
    key old.found.entries new.found.entries run keeps.found sorts.kept)
    sorts

-- and one of rows that lie in no partition, which leaves nothing
pub SortsRows-none : (desc : DescOf) (feeds : List FeedBookOf) (delivery : DeliveryOf)
    (first count : ℕ) (sorted : Sorted)
    → All (LiesNowhere desc) (run_of delivery.rows first count)
    → SortsRows desc feeds delivery first sorted
    → SortsRows desc feeds delivery (first + count) sorted
SortsRows-none desc feeds delivery first count sorted none sorts =
    SortsRows-early desc feeds delivery first count sorted sorted
    (All-weaker (LiesNowhere desc) (λ row. is_late_by desc feeds row ≡ false)
    (λ row none. is_late_by-none desc feeds row none) (run_of delivery.rows first count) none)
    refl
    (TellsRows-none desc delivery.rows (kept_by desc feeds (take first delivery.rows))
    (run_of delivery.rows first count) sorted.found.entries none sorts.kept)
    sorts

-- a run is sorted if it is named or its stretch is kept, by whether its partition is closed
pub SortsRows-put : (desc : DescOf) (feeds : List FeedBookOf) (delivery : DeliveryOf)
    (first count : ℕ) (key : Key) (closed : Bool) (old new : Sorted)
    → IsRun desc delivery.rows first count key → is_closed_by desc feeds key ≡ closed
    → PutsStretch closed key (record { first = first; count = count }) delivery old new
    → SortsRows desc feeds delivery first old
    → SortsRows desc feeds delivery (first + count) new
SortsRows-put desc feeds delivery first count key true old new run closed puts =
    SortsRows-late desc feeds delivery first count key old new run
    (is_late_by-run desc feeds key (run_of delivery.rows first count) true closed run.only) puts
SortsRows-put desc feeds delivery first count key false old new run closed puts =
    SortsRows-kept desc feeds delivery first count key old new run
    (is_late_by-run desc feeds key (run_of delivery.rows first count) false closed run.only) puts
