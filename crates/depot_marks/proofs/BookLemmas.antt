-- What a book tells: with more room, and as one delivery more is noted; and that it tells the marks.
use Rattle.std.proofs.Common.{◌≡◌, ◌∙◌, ℕ, ◌+◌, ◌<◌, List, [], ◌∷◌, ◌++◌, length, get_or, refl, sym}
use Rattle.std.proofs.Common.{ap, arith, inl, inr, map}
use Rattle.std.specs.Prelude.{All, Bool, true, false, not, ◌||◌, ◌&&◌, ◌==◌, Option, Some, None, max}
use Rattle.std.specs.Prelude.{IsSomeAnd, is_some, nat_le, slice_get, if◌then◌else◌}
use Rattle.std.specs.Option.{option_or, unwrap_or}
use Rattle.std.specs.List.{range_with_len}
use Rattle.std.proofs.lemmas.Bool.{cases_Bool, eq-eqb, eqb-true, false≢true}
use Rattle.std.proofs.lemmas.Option.{slice_get_cases}
use Rattle.std.proofs.Math.Bool.{or-false}
use Rattle.desc_types.specs.declared.table.Key.{Key}
use Rattle.desc_types.specs.Deliveries.{DeliveryOf}
use Rattle.desc_types.specs.Accepted.{IsAccepted, IsRaw}
use Rattle.desc_types.specs.Descriptions.{DescOf}
use Rattle.desc_types.specs.KindValues.{Raw}
use Rattle.desc_types.specs.Tables.{TableOf}
use Rattle.view_meaning.specs.declared.aside.Aside.{Aside}
use Rattle.view_meaning.specs.declared.request.Mark.{Mark}
use Rattle.view_meaning.specs.declared.request.Mark.TheVariants as mark
use Rattle.view_meaning.specs.Marks.{least}
use Rattle.view_meaning.specs.Partitions.{key_of}
use Rattle.view_meaning.specs.Closing.{is_closed_in, is_fed_by, is_for, part_end}
use Rattle.view_meaning.specs.RawMarks.{greatest, has_all_to, has_number, misses, raw_mark}
use Rattle.view_meaning.specs.SetAside.{asides_of}
use Rattle.view_meaning.specs.Versions.{is_raw}
use Rattle.view_meaning.proofs.ClosingStepLemmas.{greatest-open, greatest-push, has_number-push}
use Rattle.view_meaning.proofs.ClosedLemmas.{is_closed_in-push}
use Rattle.view_meaning.proofs.ClosingStepLemmas.{list_any-asides_of, misses-push}
use Rattle.view_meaning.proofs.ClosingStepLemmas.{number_of}
use Rattle.view_meaning.proofs.GreatestLemmas.{greatest_of-push, is_for-feed}
use Rattle.view_meaning.proofs.ListLemmas.{list_all-agree, map-agree}
use Rattle.depot_marks.specs.declared.feed.FeedMarks.{FeedMarks}
use Rattle.depot_marks.specs.Closings.{greatest_at}
use Rattle.depot_marks.specs.Numbers.{is_accepted}
use Rattle.depot_marks.specs.FeedMarks.{TakesIn, TellsSame, closed_mark, mark_if}
use Rattle.depot_marks.specs.FeedMarks.{mark_told, part_mark}
use Rattle.depot_marks.specs.MarkBooks.{ChangesAt, IsRawPart, MarkBookOf, TellsMarks, TellsPart}
use Rattle.depot_marks.specs.Runs.{IsPartOf, run_of}
use Rattle.depot_marks.proofs.RunLemmas.{All-run_of, run_of-All}

-- what follows from what was found, if it has something
IsSomeAnd-cases : {X Q : Type 0} (P : X → Type 0) (found : Option X) → IsSomeAnd found P
    → ((x : X) → found ≡ Some x → P x → Q) → Q
IsSomeAnd-cases P None has go = absurd has
IsSomeAnd-cases P (Some x) has go = go x refl has

-- what tells the same tells it of a partition
TellsPart-same : (desc : DescOf) (accepted : List DeliveryOf) (key : Key) (old new : FeedMarks)
    → TellsSame old new → TellsPart desc accepted key old → TellsPart desc accepted key new
TellsPart-same desc accepted key old new same tells = record {
  closed = rw same.closings tells.closed;
  greatest = rw (same.closings, same.greatest) tells.greatest;
  numbers = λ number. tells.numbers number ∙ sym (same.numbers number);
  missed = λ last. tells.missed last ∙ sym (same.missed key last);
}

-- one delivery more of the feed raises the greatest number of a partition that was open
greatest-step : (desc : DescOf) (accepted : List DeliveryOf) (key : Key) (delivery : DeliveryOf)
    → greatest desc (accepted ++ delivery ∷ []) key
    ≡ (if is_closed_in desc accepted key then greatest desc accepted key
    else (if is_for desc key delivery then max (greatest desc accepted key) delivery.number
    else greatest desc accepted key))
greatest-step desc accepted key delivery =
    greatest-push desc accepted key delivery
    ∙ elim (cases_Bool (is_closed_in desc accepted key)) [
      | inl closed ↦ rw closed refl
      | inr still ↦ rw (still, greatest-open desc accepted key still)
          (greatest_of-push (is_for desc key) number_of accepted delivery)
    ]

-- a delivery of another feed leaves what is told of a partition
TellsPart-other : (desc : DescOf) (accepted : List DeliveryOf) (key : Key) (delivery : DeliveryOf)
    (marks : FeedMarks) → is_for desc key delivery ≡ false → TellsPart desc accepted key marks
    → TellsPart desc (accepted ++ delivery ∷ []) key marks
TellsPart-other desc accepted key delivery marks other tells = record {
  closed = is_closed_in-push desc accepted key delivery
      ∙ rw other (or-false (is_closed_in desc accepted key)) ∙ tells.closed;
  greatest = greatest-step desc accepted key delivery
      ∙ rw other (either (is_closed_in desc accepted key) (greatest desc accepted key))
      ∙ tells.greatest;
  numbers = λ number. has_number-push desc accepted key delivery number
      ∙ rw other (or-false (has_number desc accepted key number)) ∙ tells.numbers number;
  missed = λ last. misses-push desc accepted key last delivery
      ∙ rw other (or-false (misses desc accepted key last)) ∙ tells.missed last;
}
  where
    either : (test : Bool) (number : ℕ) → (if test then number else number) ≡ number
    either true number = refl
    either false number = refl

-- what is closed was closed, or is by one more
is_some-option_or : (found : Option ℕ) (far : Bool) (number : ℕ)
    → (is_some found || far) ≡ is_some (option_or found (if far then Some number else None))
is_some-option_or None true number = refl
is_some-option_or None false number = refl
is_some-option_or (Some own) far number = refl

-- the greatest number of what is closed stays, and else it is that of all
unwrap_or-option_or : (found : Option ℕ) (far : Bool) (greatest number : ℕ)
    → (if is_some found then unwrap_or found greatest else max (unwrap_or found greatest) number)
    ≡ unwrap_or (option_or found (if far then Some (max greatest number) else None))
    (max greatest number)
unwrap_or-option_or None true greatest number = refl
unwrap_or-option_or None false greatest number = refl
unwrap_or-option_or (Some own) far greatest number = refl

-- what a partition's feed tells after one delivery more of it was taken in: what is closed
is_closed_in-own : (desc : DescOf) (accepted : List DeliveryOf) (key : Key) (delivery : DeliveryOf)
    (asides : List Aside) (old new : FeedMarks) → is_for desc key delivery ≡ true
    → TakesIn delivery.number delivery.closes asides old new → TellsPart desc accepted key old
    → is_closed_in desc (accepted ++ delivery ∷ []) key
    ≡ is_some (greatest_at new.closings.items (part_end desc key))
is_closed_in-own desc accepted key delivery asides old new own takes tells =
    is_closed_in-push desc accepted key delivery
    ∙ rw (own, tells.closed, takes.closings (part_end desc key))
    (is_some-option_or (greatest_at old.closings.items (part_end desc key))
    (nat_le (part_end desc key) delivery.closes) new.closings.greatest)

-- and up to which number deliveries were expected
greatest-own : (desc : DescOf) (accepted : List DeliveryOf) (key : Key) (delivery : DeliveryOf)
    (asides : List Aside) (old new : FeedMarks) → is_for desc key delivery ≡ true
    → TakesIn delivery.number delivery.closes asides old new → TellsPart desc accepted key old
    → greatest desc (accepted ++ delivery ∷ []) key
    ≡ unwrap_or (greatest_at new.closings.items (part_end desc key)) new.closings.greatest
greatest-own desc accepted key delivery asides old new own takes tells =
    let end = part_end desc key in
    greatest-step desc accepted key delivery
    ∙ rw (own, tells.closed, tells.greatest, takes.closings end, takes.greatest)
    (unwrap_or-option_or (greatest_at old.closings.items end) (nat_le end delivery.closes)
    old.closings.greatest delivery.number)

-- so all is told of that delivery
TellsPart-own : (desc : DescOf) (accepted : List DeliveryOf) (key : Key) (delivery : DeliveryOf)
    (old new : FeedMarks) → is_for desc key delivery ≡ true
    → TakesIn delivery.number delivery.closes (asides_of desc accepted delivery) old new
    → TellsPart desc accepted key old → TellsPart desc (accepted ++ delivery ∷ []) key new
TellsPart-own desc accepted key delivery old new own takes tells =
    let asides = asides_of desc accepted delivery in record {
      closed = is_closed_in-own desc accepted key delivery asides old new own takes tells;
      greatest = greatest-own desc accepted key delivery asides old new own takes tells;
      numbers = λ number. has_number-push desc accepted key delivery number
          ∙ rw (own, tells.numbers number) (sym (takes.numbers number));
      missed = λ last. misses-push desc accepted key last delivery
          ∙ rw (own, tells.missed last, ← list_any-asides_of desc key last accepted delivery)
          (sym (takes.missed key last));
    }

-- what a change of the feed at a place makes of what is told: of its partitions, and of the others
record Carries (desc : DescOf) (accepted more : List DeliveryOf) (place : ℕ)
    (Changes : FeedMarks → FeedMarks → Type 0) : Type 0 where
  pub own : (before after : FeedMarks) (key : Key)
      → is_fed_by place (slice_get desc.tables key.table) ≡ true → Changes before after
      → TellsPart desc accepted key before → TellsPart desc more key after
  pub others : (feed : ℕ) (marks : FeedMarks) (key : Key) → (place == feed) ≡ false
      → is_fed_by feed (slice_get desc.tables key.table) ≡ true
      → TellsPart desc accepted key marks → TellsPart desc more key marks

-- a book tells what such a change carries over
TellsMarks-at : (desc : DescOf) (accepted more : List DeliveryOf) (place : ℕ)
    (Changes : FeedMarks → FeedMarks → Type 0) (old new : MarkBookOf)
    → Carries desc accepted more place Changes → ChangesAt place Changes old.feeds new.feeds
    → TellsMarks desc accepted old → TellsMarks desc more new
TellsMarks-at desc accepted more place Changes old new carries changes tells = record {
  feeds = changes.count ∙ tells.feeds;
  parts = λ feed marks key found fed. elim (cases_Bool (place == feed)) [
    | inl same ↦
        let here : feed ≡ place = sym (eqb-true place feed same) in
        IsSomeAnd-cases (λ before. Changes before marks) (slice_get old.feeds place)
        (changes.own marks (rw here at found))
        (λ before was changed. carries.own before marks key (rw here at fed) changed
        (tells.parts place before key was (rw here at fed)))
    | inr apart ↦ carries.others feed marks key apart fed
        (tells.parts feed marks key (sym (changes.others feed apart) ∙ found) fed)
  ];
}

-- a book tells the marks that it told if what one feed tells is the same
pub TellsMarks-same : (place : ℕ) (old new : MarkBookOf)
    → ChangesAt place TellsSame old.feeds new.feeds
    → (desc : DescOf) (accepted : List DeliveryOf) → TellsMarks desc accepted old
    → TellsMarks desc accepted new
TellsMarks-same place old new changes desc accepted =
    TellsMarks-at desc accepted accepted place TellsSame old new (record {
      own = λ before after key _ same told.
          TellsPart-same desc accepted key before after same told;
      others = λ _ _ _ _ _ told. told;
    }) changes

-- and those after one delivery more if its feed takes it in
pub TellsMarks-push : (delivery : DeliveryOf) (asides : List Aside) (old new : MarkBookOf)
    → ChangesAt delivery.feed (TakesIn delivery.number delivery.closes asides) old.feeds new.feeds
    → (desc : DescOf) (accepted : List DeliveryOf) → TellsMarks desc accepted old
    → asides ≡ asides_of desc accepted delivery
    → TellsMarks desc (accepted ++ delivery ∷ []) new
TellsMarks-push delivery asides old new changes desc accepted tells named =
    TellsMarks-at desc accepted (accepted ++ delivery ∷ []) delivery.feed
    (TakesIn delivery.number delivery.closes asides) old new (record {
      own = λ before after key fed takes told.
          TellsPart-own desc accepted key delivery before after fed (rw named at takes) told;
      others = λ feed marks key apart fed told.
          TellsPart-other desc accepted key delivery marks
          (is_for-feed desc key feed fed delivery ∙ apart) told;
    }) changes tells

-- whether a closed partition is complete is what its feed tells
closed_mark-told : (desc : DescOf) (accepted : List DeliveryOf) (key : Key) (marks : FeedMarks)
    (last : ℕ) → TellsPart desc accepted key marks
    → (if has_all_to desc accepted key last && not (misses desc accepted key last)
    then mark.Complete else mark.Closed)
    ≡ closed_mark marks key last
closed_mark-told desc accepted key marks last tells =
    rw (
      list_all-agree (has_number desc accepted key) (is_accepted marks.numbers)
          (range_with_len 0 (last + 1))
          (λ index default _. tells.numbers
          (get_or (range_with_len 0 (last + 1)) index default)),
      tells.missed last,
    ) refl

-- the mark of a raw partition is what its feed tells
raw_mark-told : (desc : DescOf) (accepted : List DeliveryOf) (key : Key) (marks : FeedMarks)
    → TellsPart desc accepted key marks
    → raw_mark desc accepted key ≡ mark_told marks key (part_end desc key)
raw_mark-told desc accepted key marks tells =
    rw (tells.closed, tells.greatest)
    (at_end (greatest_at marks.closings.items (part_end desc key)))
  where
    closed_at : ℕ → Mark
    closed_at last = if has_all_to desc accepted key last && not (misses desc accepted key last)
        then mark.Complete else mark.Closed

    at_end : (found : Option ℕ)
        → (if is_some found then closed_at (unwrap_or found marks.closings.greatest)
        else mark.Open)
        ≡ mark_if marks key found
    at_end None = refl
    at_end (Some last) = closed_mark-told desc accepted key marks last tells

-- the mark of a partition of a feed's table is what the book has of the feed
part_mark-told : (desc : DescOf) (accepted : List DeliveryOf) (key : Key) (table : TableOf)
    (feed time : ℕ) (book : MarkBookOf) (marks : FeedMarks)
    → slice_get desc.tables key.table ≡ Some table → table.kind ≡ Raw feed time
    → TellsMarks desc accepted book → slice_get book.feeds feed ≡ Some marks
    → part_mark marks table.width key ≡ raw_mark desc accepted key
part_mark-told desc accepted key table feed time book marks found kind tells there =
    let fed : is_fed_by feed (slice_get desc.tables key.table) ≡ true =
    rw (found, kind) (eq-eqb feed feed refl) in
    let told = raw_mark-told desc accepted key marks (tells.parts feed marks key there fed) in
    rw (told, found) refl

-- so is the least mark of a run of them
pub least-told : (desc : DescOf) (accepted : List DeliveryOf) (number first count feed time : ℕ)
    (table : TableOf) (book : MarkBookOf) (given : Mark) → IsAccepted desc
    → slice_get desc.tables number ≡ Some table → table.kind ≡ Raw feed time
    → TellsMarks desc accepted book
    → ((marks : FeedMarks) → slice_get book.feeds feed ≡ Some marks
    → given ≡ least (map (part_mark marks table.width) (run_of number first count)))
    → given ≡ least (map (raw_mark desc accepted) (run_of number first count))
least-told desc accepted number first count feed time table book given is found kind tells told =
    let raw : IsRaw desc table.columns feed time = rw kind at (is.each number table found).kind in
    elim (slice_get_cases book.feeds feed).1 [
      | inl there ↦
          let its = part_mark there.0 table.width in
          told there.0 there.2
          ∙ ap least (map-agree its (raw_mark desc accepted) (run_of number first count)
          (run_of-All (λ key. its key ≡ raw_mark desc accepted key) number first count (λ part _ _.
          part_mark-told desc accepted (key_of number part) table feed time book there.0 found kind
          tells there.2)))
      | inr past ↦ absurd (omega (arith, past.0, raw.declared, tells.feeds))
    ]

-- the table of a run of raw partitions is a raw one
pub is_raw-run : (desc : DescOf) (number first count : ℕ)
    → All (IsRawPart desc) (run_of number first count) → 0 < count
    → is_raw (slice_get desc.tables number) ≡ true
is_raw-run desc number first count raw some =
    (All-run_of (IsRawPart desc) number first count first raw (omega arith) (omega arith)).raw

-- there is such a table
pub is_raw-within : (tables : List TableOf) (number : ℕ) → is_raw (slice_get tables number) ≡ true
    → number < length tables
is_raw-within tables number raw =
    elim (slice_get_cases tables number).1 [
      | inl there ↦ there.1
      | inr past ↦ absurd (false≢true (rw past.1 at raw))
    ]

-- they are partitions of that table
pub run_of-raw : (desc : DescOf) (number first count : ℕ) (table : TableOf)
    → slice_get desc.tables number ≡ Some table → All (IsRawPart desc) (run_of number first count)
    → All (IsPartOf table.width) (run_of number first count)
run_of-raw desc number first count table found raw =
    run_of-All (IsPartOf table.width) number first count (λ part from below.
    rw found at (All-run_of (IsRawPart desc) number first count part raw from below).part)
