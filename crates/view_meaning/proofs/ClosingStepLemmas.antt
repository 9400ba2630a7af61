-- What one delivery more changes of the things that marks are made of: what is closed, the greatest
-- number until then, which numbers came, and which rows came too late. A book of marks takes the
-- lemmas on `push`, and those on `feed` to keep one thing for all partitions of a feed's tables.
use Rattle.std.proofs.Common.{◌≡◌, ◌∙◌, ℕ, ◌+◌, ◌<◌, ◌≤◌, List, [], ◌∷◌, ◌++◌, refl, sym, ap}
use Rattle.std.proofs.Common.{inl, inr, arith, get_or, subst}
use Rattle.std.specs.Prelude.{Bool, true, false, ◌&&◌, ◌||◌, ◌==◌, nat_le, nat_lt, slice_get}
use Rattle.std.specs.Prelude.{if◌then◌else◌}
use Rattle.std.specs.List.{list_any, range_with_len}
use Rattle.std.proofs.lemmas.Bool.{both_ways, cases_Bool, cases_lt, false≢true, le-ltb, lt-ltb}
use Rattle.std.proofs.lemmas.Bool.{or_from, or_parts, false_from_ne_true}
use Rattle.std.proofs.lemmas.List.{append_assoc}
use Rattle.std.proofs.lemmas.List.FromFn.{get_or-range_with_len, length-range_with_len}
use Rattle.std.proofs.lemmas.List.Folds.{list_any-append}
use Rattle.std.proofs.lemmas.List.Sums.{AllPass-from_list_all, list_all-from_AllPass}
use Rattle.std.proofs.lemmas.Map.Views.{any-filter_same}
use Rattle.std.proofs.Math.Bool.{or-false}
use Rattle.desc_types.specs.declared.table.Key.{Key}
use Rattle.desc_types.specs.declared.delivery.DRow.{DRow}
use Rattle.desc_types.specs.Deliveries.{DeliveryOf}
use Rattle.desc_types.specs.Descriptions.{DescOf}
use Rattle.partition_map.proofs.ListLemmas.{All-range_with_len}
use Rattle.view_meaning.specs.declared.aside.Aside.{Aside}
use Rattle.view_meaning.specs.Partitions.{is_key, key_of}
use Rattle.view_meaning.specs.Closing.{closes, is_closed_in, is_fed_by, is_for}
use Rattle.view_meaning.specs.SetAside.{aside_at, aside_rows, asides, asides_after, asides_of}
use Rattle.view_meaning.specs.SetAside.{is_late, named}
use Rattle.view_meaning.specs.RawValues.{lies_in}
use Rattle.view_meaning.specs.RawMarks.{greatest, has_all_to, has_number, is_missed, misses}
use Rattle.view_meaning.specs.RawMarks.{until_closed}
use Rattle.view_meaning.proofs.SetAsideLemmas.{asides_after-push}
use Rattle.view_meaning.proofs.UntilClosedLemmas.{until_closed-none}
use Rattle.view_meaning.proofs.ListLemmas.{list_any-agree, list_any-and, list_any-flat_map}
use Rattle.view_meaning.proofs.ListLemmas.{list_any-map}
use Rattle.view_meaning.proofs.LateLemmas.{is_among-keys_of, parts_for}
use Rattle.view_meaning.proofs.ClosedLemmas.{is_closed_in-front, is_late-closed}
use Rattle.view_meaning.proofs.GreatestLemmas.{greatest_of, is_for-feed, is_of}

-- deliveries after the one that closed a partition do not count
until_closed-closed : (desc : DescOf) (key : Key) (accepted more : List DeliveryOf)
    → is_closed_in desc accepted key ≡ true
    → until_closed desc key (accepted ++ more) ≡ until_closed desc key accepted
until_closed-closed desc key [] more closed = absurd (false≢true closed)
until_closed-closed desc key (delivery ∷ later) more closed =
    ap (λ (rest : List DeliveryOf). delivery ∷ rest)
    (at (closes desc key delivery) closed (until_closed-closed desc key later more))
  where
    at : (own : Bool) → (own || is_closed_in desc later key) ≡ true
        → (is_closed_in desc later key ≡ true
        → until_closed desc key (later ++ more) ≡ until_closed desc key later)
        → (if own then [] else until_closed desc key (later ++ more))
        ≡ (if own then [] else until_closed desc key later)
    at true closed rest = refl
    at false closed rest = rest closed

-- all deliveries count as long as none closes a partition, and so does the one that closes it
until_closed-push : (desc : DescOf) (key : Key) (accepted : List DeliveryOf) (delivery : DeliveryOf)
    → is_closed_in desc accepted key ≡ false
    → until_closed desc key (accepted ++ delivery ∷ []) ≡ accepted ++ delivery ∷ []
until_closed-push desc key [] delivery still = last (closes desc key delivery)
  where
    last : (own : Bool) → delivery ∷ (if own then [] else []) ≡ delivery ∷ []
    last true = refl
    last false = refl
until_closed-push desc key (first ∷ later) delivery still =
    let parts = or_parts (closes desc key first) (is_closed_in desc later key) still in
    rw parts.0
    (ap (λ (rest : List DeliveryOf). first ∷ rest)
    (until_closed-push desc key later delivery parts.1))

-- the number of a delivery
abbrev pub number_of : DeliveryOf → ℕ
number_of delivery = delivery.number

-- once a partition is closed its greatest number stays
pub greatest-append : (desc : DescOf) (accepted more : List DeliveryOf) (key : Key)
    → is_closed_in desc accepted key ≡ true
    → greatest desc (accepted ++ more) key ≡ greatest desc accepted key
greatest-append desc accepted more key closed =
    ap (greatest_of (is_for desc key) number_of) (until_closed-closed desc key accepted more closed)

-- as long as it is open that is the greatest number of all that came
pub greatest-open : (desc : DescOf) (accepted : List DeliveryOf) (key : Key)
    → is_closed_in desc accepted key ≡ false
    → greatest desc accepted key ≡ greatest_of (is_for desc key) number_of accepted
greatest-open desc accepted key still =
    ap (greatest_of (is_for desc key) number_of) (until_closed-none desc key accepted still)

-- one delivery more leaves the greatest number of a closed partition, and else counts
pub greatest-push : (desc : DescOf) (accepted : List DeliveryOf) (key : Key) (delivery : DeliveryOf)
    → greatest desc (accepted ++ delivery ∷ []) key
    ≡ (if is_closed_in desc accepted key then greatest desc accepted key
    else greatest_of (is_for desc key) number_of (accepted ++ delivery ∷ []))
greatest-push desc accepted key delivery =
    elim (cases_Bool (is_closed_in desc accepted key)) [
      | inl closed ↦ rw closed (greatest-append desc accepted (delivery ∷ []) key closed)
      | inr still ↦ rw still
          (ap (greatest_of (is_for desc key) number_of)
          (until_closed-push desc key accepted delivery still))
    ]

-- one delivery more adds its number, if it is of the feed
pub has_number-push : (desc : DescOf) (accepted : List DeliveryOf) (key : Key)
    (delivery : DeliveryOf) (number : ℕ)
    → has_number desc (accepted ++ delivery ∷ []) key number
    ≡ (has_number desc accepted key number
    || (is_for desc key delivery && (delivery.number == number)))
has_number-push desc accepted key delivery number =
    list_any-append (λ other. is_for desc key other && (other.number == number)) accepted
    (delivery ∷ [])
    ∙ ap (λ (last : Bool). has_number desc accepted key number || last)
    (or-false (is_for desc key delivery && (delivery.number == number)))

-- the numbers of a partition are those of its feed
pub has_number-feed : (desc : DescOf) (accepted : List DeliveryOf) (key : Key) (feed number : ℕ)
    → is_fed_by feed (slice_get desc.tables key.table) ≡ true
    → has_number desc accepted key number
    ≡ list_any (λ delivery. is_of feed delivery && (delivery.number == number)) accepted
has_number-feed desc accepted key feed number fed =
    list_any-agree (λ delivery. is_for desc key delivery && (delivery.number == number))
    (λ delivery. is_of feed delivery && (delivery.number == number)) accepted
    (λ index default _.
    let delivery = get_or accepted index default in
    ap (λ (own : Bool). own && (delivery.number == number))
    (is_for-feed desc key feed fed delivery))

-- if all up to a number came, each of them did
pub has_number-le : (desc : DescOf) (accepted : List DeliveryOf) (key : Key) (last number : ℕ)
    → has_all_to desc accepted key last ≡ true → number ≤ last
    → has_number desc accepted key number ≡ true
has_number-le desc accepted key last number all at_most =
    let run = range_with_len 0 (last + 1) in
    let read : get_or run number 0 ≡ number =
    omega (arith, get_or-range_with_len 0 (last + 1) number 0 (omega arith)) in
    subst (λ (number : ℕ). has_number desc accepted key number ≡ true) read
    (AllPass-from_list_all (has_number desc accepted key) run all number 0
    (omega (arith, length-range_with_len 0 (last + 1))))

-- all up to a number came if each of them did
pub has_all_to-each : (desc : DescOf) (accepted : List DeliveryOf) (key : Key) (last : ℕ)
    → ((number : ℕ) → number ≤ last → has_number desc accepted key number ≡ true)
    → has_all_to desc accepted key last ≡ true
has_all_to-each desc accepted key last each =
    list_all-from_AllPass (has_number desc accepted key) (range_with_len 0 (last + 1))
    (All-range_with_len (λ number. has_number desc accepted key number ≡ true) 0 (last + 1)
    (λ number _ below. each number (omega arith)))

-- if all below a first gap came, all up to a number came exactly if it is below the gap
pub has_all_to-gap : (desc : DescOf) (accepted : List DeliveryOf) (key : Key) (last gap : ℕ)
    → ((number : ℕ) → number < gap → has_number desc accepted key number ≡ true)
    → has_number desc accepted key gap ≡ false
    → has_all_to desc accepted key last ≡ nat_lt last gap
has_all_to-gap desc accepted key last gap below missing =
    elim (cases_lt last gap) [
      | inl before ↦
          has_all_to-each desc accepted key last (λ number at_most. below number (omega arith))
          ∙ sym (lt-ltb last gap before)
      | inr after ↦
          false_from_ne_true (has_all_to desc accepted key last)
          (λ all. both_ways (has_number desc accepted key gap) missing
          (has_number-le desc accepted key last gap all after))
          ∙ sym (le-ltb last gap after)
    ]

-- the rows of its feed that one delivery more sets aside come last
pub asides-push : (desc : DescOf) (accepted : List DeliveryOf) (delivery : DeliveryOf) (feed : ℕ)
    → asides desc (accepted ++ delivery ∷ []) feed
    ≡ asides desc accepted feed
    ++ (if is_of feed delivery then asides_of desc accepted delivery else [])
asides-push desc accepted delivery feed =
    asides_after-push desc (is_of feed) [] accepted delivery

-- whether a delivery sets a row of a partition aside, if these were accepted before it: it has one
-- and the partition is closed
abbrev pub sets_aside : DescOf → Key → List DeliveryOf → DeliveryOf → Bool
sets_aside desc key before delivery =
    is_closed_in desc before key && list_any (lies_in desc key) delivery.rows

-- it does exactly if one of the rows that it sets aside lies there
pub list_any-aside_rows : (desc : DescOf) (key : Key) (before : List DeliveryOf)
    (delivery : DeliveryOf)
    → list_any (lies_in desc key) (aside_rows desc before delivery)
    ≡ sets_aside desc key before delivery
list_any-aside_rows desc key before delivery =
    any-filter_same (lies_in desc key) (is_late desc before) (is_closed_in desc before key)
    (is_late-closed desc before key) delivery.rows

-- a row's name tells of a partition exactly if the row lies there
list_any-named : (desc : DescOf) (key : Key) (last number : ℕ) (row : DRow)
    → list_any (is_missed key last) (named desc number row)
    ≡ (lies_in desc key row && nat_le number last)
list_any-named desc key last number row =
    let parts = parts_for desc row in
    list_any-map (is_missed key last) (aside_at number row) parts
    ∙ list_any-and (λ part. is_key key (key_of row.table part)) (nat_le number last) parts
    ∙ ap (λ (there : Bool). there && nat_le number last)
    (sym (list_any-map (is_key key) (key_of row.table) parts) ∙ is_among-keys_of desc row key)

-- a name that a delivery sets aside tells of a partition exactly if a row there is set aside
pub list_any-asides_of : (desc : DescOf) (key : Key) (last : ℕ) (before : List DeliveryOf)
    (delivery : DeliveryOf)
    → list_any (is_missed key last) (asides_of desc before delivery)
    ≡ (sets_aside desc key before delivery && nat_le delivery.number last)
list_any-asides_of desc key last before delivery =
    let rows = aside_rows desc before delivery in
    list_any-flat_map (is_missed key last) (named desc delivery.number) rows
    ∙ list_any-agree (λ row. list_any (is_missed key last) (named desc delivery.number row))
    (λ row. lies_in desc key row && nat_le delivery.number last) rows
    (λ index default _. list_any-named desc key last delivery.number (get_or rows index default))
    ∙ list_any-and (lies_in desc key) (nat_le delivery.number last) rows
    ∙ ap (λ (there : Bool). there && nat_le delivery.number last)
    (list_any-aside_rows desc key before delivery)

-- one delivery more misses a partition if it is of its feed, has a number up to the last that was
-- expected, and sets a row of it aside
pub misses-push : (desc : DescOf) (accepted : List DeliveryOf) (key : Key) (last : ℕ)
    (delivery : DeliveryOf)
    → misses desc (accepted ++ delivery ∷ []) key last
    ≡ (misses desc accepted key last || (is_for desc key delivery
    && (sets_aside desc key accepted delivery && nat_le delivery.number last)))
misses-push desc accepted key last delivery =
    ap (λ (names : List Aside). list_any (is_missed key last) names)
    (asides_after-push desc (is_for desc key) [] accepted delivery)
    ∙ list_any-append (is_missed key last) (asides_after desc (is_for desc key) [] accepted)
    (if is_for desc key delivery then asides_of desc accepted delivery else [])
    ∙ ap (λ (late : Bool). misses desc accepted key last || late) (own (is_for desc key delivery))
  where
    own : (is_own : Bool)
        → list_any (is_missed key last) (if is_own then asides_of desc accepted delivery else [])
        ≡ (is_own && (sets_aside desc key accepted delivery && nat_le delivery.number last))
    own true = list_any-asides_of desc key last accepted delivery
    own false = refl

-- a delivery that is accepted while a partition is open does not miss it
misses_one-open : (desc : DescOf) (key : Key) (last : ℕ) (before : List DeliveryOf)
    (delivery : DeliveryOf) (is_own : Bool) → is_closed_in desc before key ≡ false
    → list_any (is_missed key last) (if is_own then asides_of desc before delivery else []) ≡ false
misses_one-open desc key last before delivery true still =
    list_any-asides_of desc key last before delivery ∙ rw still refl
misses_one-open desc key last before delivery false still = refl

-- of deliveries after which a partition is open none misses it
misses_after-open : (desc : DescOf) (key : Key) (last : ℕ) (before accepted : List DeliveryOf)
    → is_closed_in desc (before ++ accepted) key ≡ false
    → list_any (is_missed key last) (asides_after desc (is_for desc key) before accepted) ≡ false
misses_after-open desc key last before [] still = refl
misses_after-open desc key last before (delivery ∷ later) still =
    let own = if is_for desc key delivery then asides_of desc before delivery else [] in
    let rest = asides_after desc (is_for desc key) (before ++ delivery ∷ []) later in
    list_any-append (is_missed key last) own rest
    ∙ or_from (list_any (is_missed key last) own) (list_any (is_missed key last) rest)
    (misses_one-open desc key last before delivery (is_for desc key delivery)
    (is_closed_in-front desc before (delivery ∷ later) key still))
    (misses_after-open desc key last (before ++ delivery ∷ []) later
    (ap (λ (all : List DeliveryOf). is_closed_in desc all key)
    (append_assoc before (delivery ∷ []) later) ∙ still))

-- as long as a partition is open none of its rows was set aside
pub misses-open : (desc : DescOf) (accepted : List DeliveryOf) (key : Key) (last : ℕ)
    → is_closed_in desc accepted key ≡ false → misses desc accepted key last ≡ false
misses-open desc accepted key last still = misses_after-open desc key last [] accepted still
