-- The mark of a partition: what it tells of the raw partitions below it (`exact_marks`), that the
-- partition stays as it is if it is not open (`stable_closed`), and that it rises (`marks_rise`).
use Rattle.std.proofs.Common.{◌≡◌, ◌∙◌, ℕ, ◌<◌, ◌≤◌, List, [], ◌∷◌, map, refl, sym, ap}
use Rattle.std.proofs.Common.{◌++◌, zero, suc, get_or, subst, inl, inr, arith}
use Rattle.std.specs.Prelude.{All, Bool, true, ◌&&◌, ◌≢◌, fold, nat_le}
use Rattle.std.specs.List.{list_all}
use Rattle.std.proofs.Math.Bool.{and-true, and_assoc}
use Rattle.std.proofs.lemmas.Bool.{and_from, and_parts, cases_Bool, le-leb, leb-true}
use Rattle.std.proofs.lemmas.Bool.Decides.{nat_tests}
use Rattle.std.proofs.lemmas.List.{append-nil}
use Rattle.std.proofs.lemmas.List.Sums.{AllPass-from_list_all, list_all-from_AllPass}
use Rattle.desc_types.specs.declared.table.Key.{Key}
use Rattle.desc_types.specs.Deliveries.{DeliveryOf}
use Rattle.desc_types.specs.Descriptions.{DescOf}
use Rattle.desc_types.specs.Sources.{HasEarlierSources}
use Rattle.view_meaning.specs.declared.journal.Entry.{Entry}
use Rattle.view_meaning.specs.declared.journal.Entry.TheVariants as entry
use Rattle.view_meaning.specs.declared.request.Mark.{Mark}
use Rattle.view_meaning.specs.declared.request.Mark.TheVariants as mark
use Rattle.view_meaning.specs.Journal.{accepted}
use Rattle.view_meaning.specs.Closing.{is_closed_in}
use Rattle.view_meaning.specs.Staleness.{is_settled}
use Rattle.view_meaning.specs.Ranks.{rank_of}
use Rattle.view_meaning.specs.RawBelow.{raw_below}
use Rattle.view_meaning.specs.RawMarks.{raw_mark, AreNew}
use Rattle.view_meaning.specs.Marks.{lower, mark_of, HasExactMarks, HasStableClosed, HasRisingMarks}
use Rattle.view_meaning.specs.LegalJournals.{IsLegal, MayAllFollow}
use Rattle.view_meaning.specs.Stability.{StaysSettled}
use Rattle.view_meaning.proofs.JournalLemmas.{accepted-append}
use Rattle.view_meaning.proofs.StabilityLemmas.{IsLegal-drop}
use Rattle.view_meaning.proofs.ClosedLemmas.{shut_closed}
use Rattle.view_meaning.proofs.RawMarkLemmas.{raw_marks_rise}
use Rattle.view_meaning.proofs.ShutLemmas.{StaysSettled-shut}

-- no mark is past complete
rank_of-le : (given : Mark) → rank_of given ≤ 2
rank_of-le mark.Open = omega arith
rank_of-le mark.Closed = omega arith
rank_of-le mark.Complete = omega arith

-- a mark other than open is past it
rank_of-lt : (given : Mark) → given ≢ mark.Open → 0 < rank_of given
rank_of-lt mark.Open other = absurd (other refl)
rank_of-lt mark.Closed other = omega arith
rank_of-lt mark.Complete other = omega arith

-- the lower one of two marks has at least a rank exactly if both have
nat_le-lower : (rank : ℕ) (first second : Mark)
    → nat_le rank (rank_of (lower first second))
    ≡ (nat_le rank (rank_of first) && nat_le rank (rank_of second))
nat_le-lower rank first second = elim (cases_Bool (nat_le (rank_of first) (rank_of second))) [
  | inl below ↦ rw below (grind (arith, nat_tests, below))
  | inr above ↦ rw above (grind (arith, nat_tests, above))
]

-- the least of some marks has it exactly if all of them have
pub nat_le-fold_lower : {X : Type 0} (its : X → Mark) (rank : ℕ) (first : Mark) (xs : List X)
    → nat_le rank (rank_of (fold lower first (map its xs)))
    ≡ (nat_le rank (rank_of first) && list_all (λ x. nat_le rank (rank_of (its x))) xs)
nat_le-fold_lower its rank first [] = sym (and-true (nat_le rank (rank_of first)))
nat_le-fold_lower its rank first (x ∷ xs) =
    let rest = list_all (λ x. nat_le rank (rank_of (its x))) xs in
    nat_le-fold_lower its rank (lower first (its x)) xs
    ∙ ap (λ (test : Bool). test && rest) (nat_le-lower rank first (its x))
    ∙ and_assoc (nat_le rank (rank_of first)) (nat_le rank (rank_of (its x))) rest

-- whether the mark of a raw partition has at least a rank
abbrev has_rank : DescOf → List Entry → (rank : ℕ) → Key → Bool
has_rank desc journal rank raw = nat_le rank (rank_of (raw_mark desc (accepted journal) raw))

-- the mark of a partition has at least a rank past open exactly if the partition is settled and
-- the marks of the raw partitions below it have
nat_le-mark_of : (desc : DescOf) (journal : List Entry) (key : Key) (rank : ℕ)
    → 0 < rank → rank ≤ 2
    → nat_le rank (rank_of (mark_of desc journal key))
    ≡ (is_settled desc journal key && list_all (has_rank desc journal rank) (raw_below desc key))
nat_le-mark_of desc journal key rank some known =
    let below : Bool = list_all (has_rank desc journal rank) (raw_below desc key) in
    elim (cases_Bool (is_settled desc journal key)) [
      | inl settled ↦ rw settled
          (nat_le-fold_lower (raw_mark desc (accepted journal)) rank mark.Complete
          (raw_below desc key)
          ∙ ap (λ (test : Bool). test && below) (le-leb rank 2 known))
      | inr unsettled ↦ rw unsettled (grind (arith, nat_tests, some))
    ]

-- so it is at least a mark other than open exactly if theirs are
pub exact_marks : HasExactMarks
exact_marks desc journal key given other =
    nat_le-mark_of desc journal key (rank_of given) (rank_of-lt given other) (rank_of-le given)

-- a partition is settled, and the marks of all raw partitions below it have at least a rank
record HasRank (desc : DescOf) (journal : List Entry) (key : Key) (rank : ℕ) : Type 0 where
  pub settled : is_settled desc journal key ≡ true
  pub below : All (λ raw. rank ≤ rank_of (raw_mark desc (accepted journal) raw))
      (raw_below desc key)

-- it is so if its own mark has at least this rank, which is past open
HasRank-le : (desc : DescOf) (journal : List Entry) (key : Key) (rank : ℕ) → 0 < rank
    → rank ≤ rank_of (mark_of desc journal key) → HasRank desc journal key rank
HasRank-le desc journal key rank some reached =
    let known : rank ≤ 2 = omega (arith, reached, rank_of-le (mark_of desc journal key)) in
    let test : Key → Bool = has_rank desc journal rank in
    let raws = raw_below desc key in
    let parts = and_parts (is_settled desc journal key) (list_all test raws)
    (sym (nat_le-mark_of desc journal key rank some known)
    ∙ le-leb rank (rank_of (mark_of desc journal key)) reached) in
    record {
      settled = parts.0;
      below = λ index default within.
          leb-true rank (rank_of (raw_mark desc (accepted journal) (get_or raws index default)))
          (AllPass-from_list_all test raws parts.1 index default within);
    }

-- and the other way round
le-HasRank : (desc : DescOf) (journal : List Entry) (key : Key) (rank : ℕ) → 0 < rank → rank ≤ 2
    → HasRank desc journal key rank → rank ≤ rank_of (mark_of desc journal key)
le-HasRank desc journal key rank some known has =
    let test : Key → Bool = has_rank desc journal rank in
    let raws = raw_below desc key in
    leb-true rank (rank_of (mark_of desc journal key))
    (nat_le-mark_of desc journal key rank some known
    ∙ and_from (is_settled desc journal key) (list_all test raws) has.settled
    (list_all-from_AllPass test raws (λ index default within.
    le-leb rank (rank_of (raw_mark desc (accepted journal) (get_or raws index default)))
    (has.below index default within))))

-- a raw partition whose mark is not open is closed
raw_mark-closed : (desc : DescOf) (accepted : List DeliveryOf) (raw : Key)
    → 0 < rank_of (raw_mark desc accepted raw) → is_closed_in desc accepted raw ≡ true
raw_mark-closed desc accepted raw past =
    elim (cases_Bool (is_closed_in desc accepted raw)) [
      | inl closed ↦ closed
      | inr not_closed ↦
          let none : 0 < rank_of mark.Open = rw not_closed at past in
          absurd (omega (arith, none))
    ]

-- a partition with a rank past open stays as it is
StaysSettled-HasRank : (desc : DescOf) (journal more : List Entry) (key : Key) (rank : ℕ)
    → HasEarlierSources desc → IsLegal desc (journal ++ more) → 0 < rank
    → HasRank desc journal key rank → StaysSettled desc journal (journal ++ more) key
StaysSettled-HasRank desc journal more key rank earlier legal some has =
    StaysSettled-shut desc journal more key earlier legal has.settled
    (λ index default within.
    let raw = get_or (raw_below desc key) index default in
    shut_closed desc (accepted journal) raw
    (raw_mark-closed desc (accepted journal) raw
    (omega (arith, some, has.below index default within))))

-- so does one whose mark is not open
pub stable_closed : HasStableClosed
stable_closed desc journal more key earlier legal other =
    let given = mark_of desc journal key in
    let past : 0 < rank_of given = rank_of-lt given other in
    StaysSettled-HasRank desc journal more key (rank_of given) earlier legal past
    (HasRank-le desc journal key (rank_of given) past (omega arith))

-- the deliveries of entries that may follow one by one are new
AreNew-follow : (desc : DescOf) (journal more : List Entry) → MayAllFollow desc journal more
    → AreNew (accepted journal) (accepted more)
AreNew-follow desc journal [] may = tt
AreNew-follow desc journal (entry.Load delivery ∷ later) may = (
  may.0,
  subst (λ (before : List DeliveryOf). AreNew before (accepted later))
      (accepted-append journal (entry.Load delivery ∷ []))
      (AreNew-follow desc (journal ++ entry.Load delivery ∷ []) later may.1),
)
AreNew-follow desc journal (entry.Install key at ∷ later) may =
    subst (λ (before : List DeliveryOf). AreNew before (accepted later))
    (accepted-append journal (entry.Install key at ∷ []) ∙ append-nil (accepted journal))
    (AreNew-follow desc (journal ++ entry.Install key at ∷ []) later may.1)

-- the mark of a raw partition does not fall as a legal journal goes on
raw_mark-follow : (desc : DescOf) (journal more : List Entry) (raw : Key)
    → IsLegal desc (journal ++ more)
    → rank_of (raw_mark desc (accepted journal) raw)
    ≤ rank_of (raw_mark desc (accepted (journal ++ more)) raw)
raw_mark-follow desc journal more raw legal =
    subst (λ (all : List DeliveryOf).
    rank_of (raw_mark desc (accepted journal) raw) ≤ rank_of (raw_mark desc all raw))
    (sym (accepted-append journal more))
    (raw_marks_rise desc (accepted journal) (accepted more) raw
    (AreNew-follow desc journal more (IsLegal-drop desc journal more legal)))

-- so a partition keeps a rank past open
HasRank-append : (desc : DescOf) (journal more : List Entry) (key : Key) (rank : ℕ)
    → HasEarlierSources desc → IsLegal desc (journal ++ more) → 0 < rank
    → HasRank desc journal key rank → HasRank desc (journal ++ more) key rank
HasRank-append desc journal more key rank earlier legal some has =
    let stays = StaysSettled-HasRank desc journal more key rank earlier legal some has in
    record {
      settled = stays.settled;
      below = λ index default within.
          let raw = get_or (raw_below desc key) index default in
          omega (
            arith,
            has.below index default within,
            raw_mark-follow desc journal more raw legal,
          );
    }

-- and its mark keeps it
mark_of-append : (desc : DescOf) (journal more : List Entry) (key : Key) (rank : ℕ)
    → HasEarlierSources desc → IsLegal desc (journal ++ more)
    → rank ≤ rank_of (mark_of desc journal key)
    → rank ≤ rank_of (mark_of desc (journal ++ more) key)
mark_of-append desc journal more key zero earlier legal reached = omega arith
mark_of-append desc journal more key (suc rank) earlier legal reached =
    le-HasRank desc (journal ++ more) key (suc rank) (omega arith)
    (omega (arith, reached, rank_of-le (mark_of desc journal key)))
    (HasRank-append desc journal more key (suc rank) earlier legal (omega arith)
    (HasRank-le desc journal key (suc rank) (omega arith) reached))

-- the mark of a partition does not fall as a legal journal goes on
pub marks_rise : HasRisingMarks
marks_rise desc journal more key earlier legal =
    mark_of-append desc journal more key (rank_of (mark_of desc journal key)) earlier
    legal (omega arith)
