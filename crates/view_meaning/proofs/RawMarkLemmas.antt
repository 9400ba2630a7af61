-- The marks of raw partitions: when one was closed, and that its mark never falls.
use Rattle.std.proofs.Common.{◌≡◌, ℕ, zero, suc, ◌<◌, ◌≤◌, List, [], ◌∷◌, ◌++◌, length, take}
use Rattle.std.proofs.Common.{◌∙◌, refl, ap, arith}
use Rattle.std.specs.Prelude.{Bool, true, false, ◌&&◌, ◌||◌, ◌==◌, not, nat_le}
use Rattle.std.specs.Prelude.{if◌then◌else◌}
use Rattle.std.specs.List.{list_any}
use Rattle.std.proofs.lemmas.Bool.{and_from, and_parts, both_ways, false≢true, leb-true}
use Rattle.std.proofs.lemmas.Bool.{false_from_ne_true, not-true, not_from_false, or_from, or_left}
use Rattle.std.proofs.lemmas.List.{append-nil, append_assoc}
use Rattle.desc_types.specs.declared.table.Key.{Key}
use Rattle.desc_types.specs.Deliveries.{DeliveryOf}
use Rattle.desc_types.specs.Descriptions.{DescOf}
use Rattle.view_meaning.specs.declared.request.Mark.{Mark}
use Rattle.view_meaning.specs.declared.request.Mark.TheVariants as mark
use Rattle.view_meaning.specs.Journal.{is_same}
use Rattle.view_meaning.specs.Closing.{closes, is_closed_in, is_for}
use Rattle.view_meaning.specs.Ranks.{rank_of}
use Rattle.view_meaning.specs.RawMarks.{HasClosingPlaces, HasRisingRawMarks}
use Rattle.view_meaning.specs.RawMarks.{closing_place, greatest, has_all_to, has_number}
use Rattle.view_meaning.specs.RawMarks.{is_complete, misses, raw_mark, until_closed}
use Rattle.view_meaning.proofs.ClosedLemmas.{is_closed_in-append}
use Rattle.view_meaning.proofs.ClosingStepLemmas.{greatest-append, has_all_to-each, has_number-feed}
use Rattle.view_meaning.proofs.ClosingStepLemmas.{has_number-le, has_number-push, misses-push}
use Rattle.view_meaning.proofs.ClosingStepLemmas.{sets_aside}

-- after as many deliveries as its closing place a closed partition is closed
closed-closing_place : (desc : DescOf) (accepted : List DeliveryOf) (key : Key)
    → is_closed_in desc accepted key ≡ true
    → is_closed_in desc (take (closing_place desc accepted key) accepted) key ≡ true
closed-closing_place desc [] key closed = closed
closed-closing_place desc (delivery ∷ later) key closed =
    at (closes desc key delivery) closed (closed-closing_place desc later key)
  where
    at : (own : Bool) → (own || is_closed_in desc later key) ≡ true
        → (is_closed_in desc later key ≡ true
        → is_closed_in desc (take (closing_place desc later key) later) key ≡ true)
        → (own || is_closed_in desc
        (take (length (if own then [] else until_closed desc key later)) later) key) ≡ true
    at true closed rest = refl
    at false closed rest = rest closed

-- after fewer it is open
open-closing_place : (desc : DescOf) (accepted : List DeliveryOf) (key : Key) (fewer : ℕ)
    → fewer < closing_place desc accepted key
    → is_closed_in desc (take fewer accepted) key ≡ false
open-closing_place desc [] key fewer before = absurd (omega arith)
open-closing_place desc (delivery ∷ later) key zero before = refl
open-closing_place desc (delivery ∷ later) key (suc fewer) before =
    at (closes desc key delivery) before (open-closing_place desc later key fewer)
  where
    at : (own : Bool)
        → suc fewer < suc (length (if own then [] else until_closed desc key later))
        → (fewer < closing_place desc later key
        → is_closed_in desc (take fewer later) key ≡ false)
        → (own || is_closed_in desc (take fewer later) key) ≡ false
    at true before rest = absurd (omega arith)
    at false before rest = rest (omega arith)

-- the closing place of a closed partition is the least count after which it is closed
pub closing_places : HasClosingPlaces
closing_places desc accepted key closed = record {
  closed = closed-closing_place desc accepted key closed;
  least = open-closing_place desc accepted key;
}

-- all numbers up to one that came are still there after one delivery more
has_all_to-push : (desc : DescOf) (accepted : List DeliveryOf) (key : Key) (last : ℕ)
    (delivery : DeliveryOf) → has_all_to desc accepted key last ≡ true
    → has_all_to desc (accepted ++ delivery ∷ []) key last ≡ true
has_all_to-push desc accepted key last delivery all =
    has_all_to-each desc (accepted ++ delivery ∷ []) key last
    (λ number at_most. has_number-push desc accepted key delivery number
    ∙ or_left (has_number desc accepted key number)
    (is_for desc key delivery && (delivery.number == number))
    (has_number-le desc accepted key last number all at_most))

-- a new delivery has no number that came
has_number-new : (desc : DescOf) (accepted : List DeliveryOf) (key : Key) (delivery : DeliveryOf)
    → is_for desc key delivery ≡ true → list_any (is_same delivery) accepted ≡ false
    → has_number desc accepted key delivery.number ≡ false
has_number-new desc accepted key delivery own new =
    has_number-feed desc accepted key delivery.feed delivery.number own ∙ new

-- a new delivery misses no partition up to a number up to which all came
misses-new : (desc : DescOf) (accepted : List DeliveryOf) (key : Key) (last : ℕ)
    (delivery : DeliveryOf) → list_any (is_same delivery) accepted ≡ false
    → has_all_to desc accepted key last ≡ true → misses desc accepted key last ≡ false
    → misses desc (accepted ++ delivery ∷ []) key last ≡ false
misses-new desc accepted key last delivery new all none =
    let own = is_for desc key delivery in
    let up_to = nat_le delivery.number last in
    let late = sets_aside desc key accepted delivery in
    misses-push desc accepted key last delivery
    ∙ or_from (misses desc accepted key last) (own && (late && up_to)) none
    (false_from_ne_true (own && (late && up_to)) (λ missed.
    let parts = and_parts own (late && up_to) missed in
    let at_most = leb-true delivery.number last (and_parts late up_to parts.1).1 in
    both_ways (has_number desc accepted key delivery.number)
    (has_number-new desc accepted key delivery parts.0 new)
    (has_number-le desc accepted key last delivery.number all at_most)))

-- a closed partition that is complete stays so after a new delivery
is_complete-push : (desc : DescOf) (accepted : List DeliveryOf) (key : Key) (delivery : DeliveryOf)
    → list_any (is_same delivery) accepted ≡ false → is_closed_in desc accepted key ≡ true
    → is_complete desc accepted key ≡ true
    → is_complete desc (accepted ++ delivery ∷ []) key ≡ true
is_complete-push desc accepted key delivery new closed complete =
    let last = greatest desc accepted key in
    let more = accepted ++ delivery ∷ [] in
    let all = has_all_to desc accepted key last in
    let parts = and_parts all (not (misses desc accepted key last)) complete in
    rw (greatest-append desc accepted (delivery ∷ []) key closed)
    (and_from (has_all_to desc more key last) (not (misses desc more key last))
    (has_all_to-push desc accepted key last delivery parts.0)
    (not_from_false (misses desc more key last)
    (misses-new desc accepted key last delivery new parts.0
    (not-true (misses desc accepted key last) parts.1))))

-- the mark of a partition that is closed or not, and complete or not
abbrev mark_by : (closed complete : Bool) → Mark
mark_by closed complete =
    if closed then (if complete then mark.Complete else mark.Closed) else mark.Open

-- it does not fall if neither goes away
mark_by-rise : (closed complete later fuller : Bool) → (closed ≡ true → later ≡ true)
    → (closed ≡ true → complete ≡ true → fuller ≡ true)
    → rank_of (mark_by closed complete) ≤ rank_of (mark_by later fuller)
mark_by-rise false complete later fuller stays full = omega arith
mark_by-rise true complete false fuller stays full = absurd (false≢true (stays refl))
mark_by-rise true false true false stays full = omega arith
mark_by-rise true false true true stays full = omega arith
mark_by-rise true true true false stays full = absurd (false≢true (full refl refl))
mark_by-rise true true true true stays full = omega arith

-- the mark of a raw partition does not fall as a new delivery is accepted
raw_mark-push : (desc : DescOf) (accepted : List DeliveryOf) (key : Key) (delivery : DeliveryOf)
    → list_any (is_same delivery) accepted ≡ false
    → rank_of (raw_mark desc accepted key) ≤ rank_of (raw_mark desc (accepted ++ delivery ∷ []) key)
raw_mark-push desc accepted key delivery new =
    mark_by-rise (is_closed_in desc accepted key) (is_complete desc accepted key)
    (is_closed_in desc (accepted ++ delivery ∷ []) key)
    (is_complete desc (accepted ++ delivery ∷ []) key)
    (is_closed_in-append desc accepted (delivery ∷ []) key)
    (is_complete-push desc accepted key delivery new)

-- nor as new deliveries are accepted one by one
pub raw_marks_rise : HasRisingRawMarks
raw_marks_rise desc accepted [] key new =
    let same = ap (λ (all : List DeliveryOf). rank_of (raw_mark desc all key))
    (append-nil accepted) in
    omega arith
raw_marks_rise desc accepted (delivery ∷ later) key new =
    let first = raw_mark-push desc accepted key delivery new.0 in
    let rest = raw_marks_rise desc (accepted ++ delivery ∷ []) later key new.1 in
    let same = ap (λ (all : List DeliveryOf). rank_of (raw_mark desc all key))
    (append_assoc accepted (delivery ∷ []) later) in
    omega arith
