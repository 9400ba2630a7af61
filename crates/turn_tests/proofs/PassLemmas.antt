-- What passes tell after turns in threads, and what the log has at the end.
use Rattle.std.proofs.Common.{ℕ, ◌≡◌, ◌∙◌, ◌+◌, ◌<◌, ⊎_elim, ◌++◌, inl, inr, List, [], ◌∷◌, Some, ap, append-nil, append_assoc, arith, drop, get_or, length, refl, subst, sym, take}
use Rattle.std.proofs.lemmas.List.{take-append-drop, take_more}
use mathlib.Core.List.{IsPrefix}
use Rattle.atomic_table.specs.declared.shared.Seat.{Seat}
use Rattle.turn_lock.specs.declared.known.Known.{Known}
use Rattle.turn_lock.specs.declared.known.Share.{Share}
use Rattle.turn_lock.specs.declared.known.View.{View}
use Rattle.turn_lock.specs.Turns.{TakesTurn, entries_of}
use Rattle.turn_lock.specs.Passes.{IsIn, MayLeave, SamePass, Tells, TellsAll, after_join, after_split, after_turn, first_known, found_by, numbers_of, split_off, told_by}
use Rattle.turn_lock.proofs.ListLemmas.{IsIn-append, IsIn-right}
use Rattle.turn_lock.proofs.TellsLemmas.{own_entries-turn}
use Rattle.turn_tests.specs.declared.numbers.Numbers.{Numbers}
use Rattle.turn_tests.specs.Numbers.{Adds, numbers}
use Rattle.turn_tests.specs.Passes.{AddsSome, EachAdded, HasBoth, HasEach, IsFirst, IsUnspent, TakesTurns}

-- one turn of a pass, as the pass tells it
pub TakesTurns-turn : (entries : List ℕ) (failed : ℕ) (known : Known ℕ ℕ ℕ) (before after : Numbers)
    → Tells numbers known before → Adds known.number entries failed before after
    → TakesTurns entries failed known (after_turn numbers known after)
TakesTurns-turn entries failed known before after told adds = record {
  same = record {
    number = refl;
    room = refl;
    parent = refl;
    to_join = refl;
    start = refl;
    joined = refl;
  };
  entries = own_entries-turn numbers known before after told adds.turn
      ∙ ap (λ added. known.own.entries ++ added) adds.added;
  part = omega (
    arith,
    adds.turn.failed,
    adds.fails,
    ap (λ (share : Share ℕ ℕ). share.part) told.own.now,
  );
}

-- what a caller added in its turn may be left
pub MayLeave-adds : {T : Type 0} (entries : List ℕ) (failed by : ℕ)
    (seat : Seat T (View Numbers ℕ ℕ ℕ)) (before after : Numbers) → found_by seat ≡ Some before
    → by ≡ (told_by seat).number → Adds by entries failed before after → MayLeave numbers seat after
MayLeave-adds entries failed by seat before after found number adds = record {
  before = before;
  found = found;
  turn = subst (λ number. TakesTurn numbers number before after) number adds.turn;
}

-- and when it was left, the pass tells it
pub TakesTurns-left : (entries : List ℕ) (failed by : ℕ) (known held later : Known ℕ ℕ ℕ)
    (before after : Numbers) → by ≡ known.number → held ≡ known → Tells numbers known before
    → Adds by entries failed before after → later ≡ after_turn numbers held after
    → TakesTurns entries failed known later
TakesTurns-left entries failed by known held later before after number same told adds left =
    subst (TakesTurns entries failed known)
    (sym (left ∙ ap (λ known. after_turn numbers known after) same))
    (TakesTurns-turn entries failed known before after told
    (subst (λ number. Adds number entries failed before after) number adds))

-- no turn changes nothing
pub TakesTurns-none : (known : Known ℕ ℕ ℕ) → TakesTurns [] 0 known known
TakesTurns-none known = record {
  same = record {
    number = refl;
    room = refl;
    parent = refl;
    to_join = refl;
    start = refl;
    joined = refl;
  };
  entries = sym (append-nil known.own.entries);
  part = omega arith;
}

pub SamePass-trans : (one two three : Known ℕ ℕ ℕ) → SamePass one two → SamePass two three
    → SamePass one three
SamePass-trans one two three first second = record {
  number = second.number ∙ first.number;
  room = second.room ∙ first.room;
  parent = second.parent ∙ first.parent;
  to_join = second.to_join ∙ first.to_join;
  start = second.start ∙ first.start;
  joined = second.joined ∙ first.joined;
}

-- turns after turns
pub TakesTurns-trans : (added more : List ℕ) (failed again : ℕ) (one two three : Known ℕ ℕ ℕ)
    → TakesTurns added failed one two → TakesTurns more again two three
    → TakesTurns (added ++ more) (failed + again) one three
TakesTurns-trans added more failed again one two three first second = record {
  same = SamePass-trans one two three first.same second.same;
  entries = second.entries ∙ ap (λ entries. entries ++ more) first.entries
      ∙ append_assoc one.own.entries added more;
  part = omega (arith, first.part, second.part);
}

-- a turn that added the next of some numbers
pub TakesTurns-next : (list : List ℕ) (count number : ℕ) (one two three : Known ℕ ℕ ℕ)
    → count < length list → get_or list count 0 ≡ number
    → TakesTurns (take count list) 0 one two → TakesTurns (number ∷ []) 0 two three
    → TakesTurns (take (count + 1) list) 0 one three
TakesTurns-next list count number one two three within here first second =
    subst (λ added. TakesTurns added 0 one three)
    (sym (take_more list count 0 within
    ∙ ap (λ (number : ℕ). take count list ++ number ∷ []) here))
    (TakesTurns-trans (take count list) (number ∷ []) 0 0 one two three first second)

-- a turn that did not add it
pub TakesTurns-stop : (list : List ℕ) (one two three : Known ℕ ℕ ℕ)
    → TakesTurns list 0 one two → TakesTurns [] 0 two three → TakesTurns list 0 one three
TakesTurns-stop list one two three first second =
    subst (λ added. TakesTurns added 0 one three) (append-nil list)
    (TakesTurns-trans list [] 0 0 one two three first second)

-- the first pass over numbers that have no entry
pub IsFirst-new : (known : Known ℕ ℕ ℕ) (value : Numbers) → known ≡ first_known numbers value
    → value.log.items ≡ [] → IsFirst known
IsFirst-new known value told none = record {
  number = ap (λ (known : Known ℕ ℕ ℕ). known.number) told;
  room = ap (λ (known : Known ℕ ℕ ℕ). known.room) told;
  to_join = ap (λ (known : Known ℕ ℕ ℕ). known.to_join) told;
  unspent = record {
    entries = ap (λ (known : Known ℕ ℕ ℕ). known.own.entries) told ∙ ap (entries_of 0) none;
    joined = ap (λ (known : Known ℕ ℕ ℕ). known.joined) told;
  };
}

-- what a pass and one that was split off from it tell then
pub record IsSplit (before pass other : Known ℕ ℕ ℕ) (room : ℕ) : Type 0 where
  pub left : pass ≡ after_split before room
  pub right : other ≡ split_off 0 before room

pub IsUnspent-left : (before pass other : Known ℕ ℕ ℕ) (room : ℕ) → IsSplit before pass other room
    → IsUnspent before → IsUnspent pass
IsUnspent-left before pass other room split unspent = subst IsUnspent (sym split.left)
    record { entries = unspent.entries; joined = unspent.joined }

pub IsUnspent-right : (before pass other : Known ℕ ℕ ℕ) (room : ℕ) → IsSplit before pass other room
    → IsUnspent other
IsUnspent-right before pass other room split = subst IsUnspent (sym split.right)
    record { entries = refl; joined = refl }

-- after turns of both, the second is still a child of the first
pub parent-right : (before pass other : Known ℕ ℕ ℕ) (room : ℕ) → IsSplit before pass other room
    → (after later : Known ℕ ℕ ℕ) → after.number ≡ pass.number → later.parent ≡ other.parent
    → later.parent ≡ Some after.number
parent-right before pass other room split after later number parent = parent
    ∙ ap (λ (known : Known ℕ ℕ ℕ). known.parent) split.right
    ∙ ap Some (sym (number ∙ ap (λ (known : Known ℕ ℕ ℕ). known.number) split.left))

-- and has none left to join
pub to_join-right : (before pass other : Known ℕ ℕ ℕ) (room : ℕ) → IsSplit before pass other room
    → (later : Known ℕ ℕ ℕ) → later.to_join ≡ other.to_join → later.to_join ≡ 0
to_join-right before pass other room split later to_join =
    to_join ∙ ap (λ (known : Known ℕ ℕ ℕ). known.to_join) split.right

-- what a pass added that had no entry begins the numbers
IsPrefix-added : (list : List ℕ) (before after : Known ℕ ℕ ℕ) → IsUnspent before
    → AddsSome list before after → IsPrefix after.own.entries list
IsPrefix-added list before after unspent adds =
    subst (λ entries. IsPrefix entries list)
    (sym (adds.turns.entries
    ∙ ap (λ entries. entries ++ take adds.count list) unspent.entries))
    (drop adds.count list, take-append-drop adds.count list)

-- one pass added, and no other
pub EachAdded-one : (list : List ℕ) (before after : Known ℕ ℕ ℕ) → IsUnspent before
    → AddsSome list before after → EachAdded list before after
EachAdded-one list before after unspent adds = record {
  number = adds.turns.same.number;
  parent = adds.turns.same.parent;
  to_join = adds.turns.same.to_join;
  own = IsPrefix-added list before after unspent adds;
  joined = λ other among. absurd
      (subst (λ joined. IsIn other joined) (adds.turns.same.joined ∙ unspent.joined) among);
}

-- a pass and one that was split off from it added, and were joined
pub EachAdded-join : (list : List ℕ) (before pass other : Known ℕ ℕ ℕ) (room : ℕ)
    (after later last : Known ℕ ℕ ℕ) → IsSplit before pass other room
    → EachAdded list pass after → EachAdded list other later → last ≡ after_join after later
    → EachAdded list before last
EachAdded-join list before pass other room after later last split one two joined =
    let added : EachAdded list (after_split before room) after =
    subst (λ known. EachAdded list known after) split.left one in
    subst (EachAdded list before) (sym joined) record {
      number = added.number;
      parent = added.parent;
      to_join = omega (arith, added.to_join);
      own = added.own;
      joined = λ given among. ⊎_elim (added.joined given)
          (⊎_elim (λ same. subst (λ (given : ℕ × Share ℕ ℕ). IsPrefix given.1.entries list)
          (sym same) two.own) (two.joined given))
          (IsIn-append given after.joined ((later.number, later.own) ∷ later.joined) among);
    }

-- a fact of the number of each pass that was joined is one of each number that was
each-numbers : {A : Type 0} (Fact : ℕ → Type 0) (items : List (ℕ × A))
    → ((item : ℕ × A) → IsIn item items → Fact item.0)
    → (number : ℕ) → IsIn number (numbers_of items) → Fact number
each-numbers Fact [] each number among = absurd among
each-numbers Fact (first ∷ rest) each number among =
    ⊎_elim (λ same. subst Fact (sym same) (each first (inl refl)))
    (each-numbers Fact rest (λ item later. each item (inr later)) number) among

-- all that a pass tells has beginnings of the numbers, and so has the log
pub HasEach-told : (list : List ℕ) (before known : Known ℕ ℕ ℕ) (value : Numbers)
    → EachAdded list before known → TellsAll numbers known value → HasEach list value.log.items
HasEach-told list before known value added told number =
    let Begins = λ (number : ℕ). IsPrefix (entries_of number value.log.items) list in
    ⊎_elim
    (λ own. subst Begins (sym own)
    (subst (λ entries. IsPrefix entries list)
    (sym (ap (λ (share : Share ℕ ℕ). share.entries) told.told.own.now)) added.own))
    (⊎_elim
    (each-numbers Begins known.joined
    (λ other among. subst (λ entries. IsPrefix entries list)
    (sym (ap (λ (share : Share ℕ ℕ). share.entries) (told.told.joined other among).now))
    (added.joined other among))
    number)
    (λ unused. subst (λ entries. IsPrefix entries list)
    (sym (ap (λ (share : Share ℕ ℕ). share.entries) unused)) (list, refl)))
    (told.others number)

-- two passes added, of which one was split off from the first and joined again
pub HasBoth-told : (first second : List ℕ) (before pass other after later : Known ℕ ℕ ℕ)
    (value : Numbers) → IsFirst before → IsSplit before pass other 0
    → AddsSome first pass after → AddsSome second other later
    → TellsAll numbers (after_join after later) value
    → HasBoth 4294967294 first second value.log.items
HasBoth-told first second before pass other after later value fresh split one two told =
    let own : AddsSome first (after_split before 0) after =
    subst (λ known. AddsSome first known after) split.left one in
    let others : AddsSome second (split_off 0 before 0) later =
    subst (λ known. AddsSome second known later) split.right two in
    let at_first : after.number ≡ 0 = own.turns.same.number ∙ fresh.number in
    let at_last : later.number ≡ 4294967294 =
    omega (arith, others.turns.same.number, fresh.number, fresh.room) in
    let joined : after.joined ++ (later.number, later.own) ∷ later.joined
    ≡ (later.number, later.own) ∷ [] =
    λ i. (own.turns.same.joined ∙ fresh.unspent.joined) i
    ++ (later.number, later.own) ∷ others.turns.same.joined i in
    let share = told.told.joined (later.number, later.own)
    (IsIn-right (later.number, later.own) after.joined ((later.number, later.own) ∷ later.joined)
    (inl refl)) in
    let log = value.log.items in
    record {
      of_first = subst (λ entries. IsPrefix entries first)
          (sym (subst (λ number. entries_of number log ≡ after.own.entries) at_first
          (ap (λ (share : Share ℕ ℕ). share.entries) told.told.own.now)))
          (IsPrefix-added first pass after (IsUnspent-left before pass other 0 split fresh.unspent)
          one);
      of_other = subst (λ entries. IsPrefix entries second)
          (sym (subst (λ number. entries_of number log ≡ later.own.entries) at_last
          (ap (λ (share : Share ℕ ℕ). share.entries) share.now)))
          (IsPrefix-added second other later (IsUnspent-right before pass other 0 split) two);
      no_more = λ number not_first not_other.
          ⊎_elim (λ own. absurd (not_first (own ∙ at_first)))
          (⊎_elim
          (λ among. ⊎_elim (λ same. absurd (not_other (same ∙ at_last))) (λ none. absurd none)
          (subst (λ items. IsIn number (numbers_of items)) joined among))
          (λ unused. ap (λ (share : Share ℕ ℕ). share.entries) unused))
          (told.others number);
    }
