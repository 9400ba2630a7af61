-- What a pass tells stays true: after turns of others and its own, a split and a join.
use Rattle.std.proofs.Common.{ℕ, ◌≡◌, ◌≢◌, ◌∙◌, ◌+◌, ◌-◌, ◌<◌, ◌≤◌, ⊎_elim, inl, inr, List, ◌∷◌, ◌++◌, Some, ap, append-nil, arith, refl, subst, sym}
use mathlib.Core.List.{IsPrefix}
use Rattle.turn_lock.specs.declared.known.Known.{Known}
use Rattle.turn_lock.specs.declared.known.Share.{Share}
use Rattle.turn_lock.specs.Turns.{Grew, Meaning, TakesTurn, entries_of, growth_of, share_of, under}
use Rattle.turn_lock.specs.Passes.{HasShare, IsIn, Tells, after_join, after_split, after_turn, longer, numbers_of, split_off}
use Rattle.turn_lock.specs.Rule.{Frame, IsOutside, Owns}
use Rattle.turn_lock.proofs.ListLemmas.{IsIn-append, IsIn-numbers}
use Rattle.turn_lock.proofs.GrowthLemmas.{Grew-both, Grew-self, Grew-trans, Stays-turn, entries_of-append, entries_of-between, entries_of-none, entries_of-other, entries_of-under, longer-first, longer-second, longer-whole}

-- numbers of two owners differ
owners-apart : (owner : ℕ → ℕ) (number other seat taker : ℕ)
    → owner number ≡ seat → owner other ≡ taker → seat ≢ taker → number ≢ other
owners-apart owner number other seat taker mine theirs apart same =
    apart (sym mine ∙ ap owner same ∙ theirs)

-- what a seat owns outside its range is not its own number
pub outside-apart : (frame : Frame) (number : ℕ) → IsOutside frame number → number ≢ frame.number
outside-apart frame number outside same =
    ⊎_elim (λ below. omega arith) (λ above. omega arith) outside

module _ {V S E P : Type 0} (m : Meaning V S E P) where
  pub Grew-turn : (number : ℕ) (before after : V) → TakesTurn m number before after
      → Grew (growth_of m before) (growth_of m after)
  Grew-turn number before after turn = record {
    log = (under number turn.added, sym turn.log);
    level = turn.level;
    closer = Stays-turn (m.closer before) (m.closer after)
        (⊎_elim inl (λ new. inr new.0) turn.closer);
    failure = Stays-turn (m.failure before) (m.failure after)
        (⊎_elim inl (λ new. inr new.0) turn.failure);
  }

  -- a turn leaves what other numbers have
  pub share_of-turn : (number other : ℕ) (before after : V) → TakesTurn m number before after
      → other ≢ number → share_of m after other ≡ share_of m before other
  share_of-turn number other before after turn apart =
      let entries : entries_of other (m.log after) ≡ entries_of other (m.log before) =
      ap (entries_of other) turn.log
      ∙ entries_of-append other (m.log before) (under number turn.added)
      ∙ ap (λ more. entries_of other (m.log before) ++ more)
      (entries_of-other other number turn.added apart)
      ∙ append-nil (entries_of other (m.log before)) in
      λ i. record { entries = entries i; part = turn.parts other apart i }

  HasShare-turn : (number : ℕ) (before after : V) (log : List (ℕ × E)) (given : ℕ × Share E P)
      → TakesTurn m number before after → given.0 ≢ number
      → HasShare m before log given → HasShare m after log given
  HasShare-turn number before after log given turn apart has = record {
    now = share_of-turn number given.0 before after turn apart ∙ has.now;
    seen = has.seen;
  }

  -- the same after more of the log was seen
  HasShare-longer : (value : V) (log more : List (ℕ × E)) (given : ℕ × Share E P)
      → IsPrefix log more → IsPrefix more (m.log value)
      → HasShare m value log given → HasShare m value more given
  HasShare-longer value log more given begins goes_on has = record {
    now = has.now;
    seen = entries_of-between given.0 log more (m.log value) given.1.entries begins goes_on
        has.seen (ap (λ (share : Share E P). share.entries) has.now);
  }

  HasShare-whole : (value : V) (given : ℕ × Share E P) → share_of m value given.0 ≡ given.1
      → HasShare m value (m.log value) given
  HasShare-whole value given now = record {
    now = now;
    seen = ap (λ (share : Share E P). share.entries) now;
  }

module _ {V S E P : Type 0} (m : Meaning V S E P) (owner : ℕ → ℕ) (seat : ℕ) (frame : Frame)
    (known : Known S E P)
    (number_is : known.number ≡ frame.number) (room_is : known.room ≡ frame.room)
    (joined_is : numbers_of known.joined ≡ frame.joined)
    (owns : Owns owner seat frame) where
  -- what the seat's pass knows of numbers that were joined to it
  joined_owned : (other : ℕ × Share E P) → IsIn other known.joined
      → (owner other.0 ≡ seat) × IsOutside frame other.0
  joined_owned other among = owns.joined other.0
      (subst (IsIn other.0) joined_is (IsIn-numbers other known.joined among))

  spare_owned : (number : ℕ) → known.number < number → number ≤ known.number + known.room
      → owner number ≡ seat
  spare_owned number above below =
      owns.spare number (omega (arith, number_is)) (omega (arith, number_is, room_is))

  pub Tells-other : (number taker : ℕ) (before after : V) → TakesTurn m number before after
      → owner number ≡ taker → seat ≢ taker → Tells m known before → Tells m known after
  Tells-other number taker before after turn taken apart told =
      let differ : (mine : ℕ) → owner mine ≡ seat → mine ≢ number =
      λ mine is. owners-apart owner mine number seat taker is taken apart in
      record {
        start = told.start ∙ ap Some (sym turn.start);
        seen = Grew-trans known.seen (growth_of m before) (growth_of m after) told.seen
            (Grew-turn m number before after turn);
        own = HasShare-turn m number before after known.seen.log (known.number, known.own) turn
            (differ known.number (ap owner number_is ∙ owns.own)) told.own;
        joined = λ other among. HasShare-turn m number before after known.seen.log other turn
            (differ other.0 (joined_owned other among).0) (told.joined other among);
        spare = λ spare above below.
            share_of-turn m number spare before after turn
            (differ spare (spare_owned spare above below)) ∙ told.spare spare above below;
      }

  pub Tells-turn : (before after : V) → TakesTurn m known.number before after
      → Tells m known before → Tells m (after_turn m known after) after
  Tells-turn before after turn told = record {
    start = told.start ∙ ap Some (sym turn.start);
    seen = Grew-self (growth_of m after);
    own = HasShare-whole m after (known.number, share_of m after known.number) refl;
    joined = λ other among. HasShare-whole m after other
        (share_of-turn m known.number other.0 before after turn
        (λ same. outside-apart frame other.0 (joined_owned other among).1 (same ∙ number_is))
        ∙ (told.joined other among).now);
    spare = λ spare above below.
        share_of-turn m known.number spare before after turn (λ same. omega arith)
        ∙ told.spare spare above below;
  }

module _ {V S E P : Type 0} (m : Meaning V S E P) where
  pub Tells-split : (known : Known S E P) (room : ℕ) (value : V)
      → Tells m known value → Tells m (after_split known room) value
  Tells-split known room value told = record {
    start = told.start;
    seen = told.seen;
    own = record { now = told.own.now; seen = told.own.seen };
    joined = told.joined;
    spare = λ spare above below. told.spare spare above (omega arith);
  }

  pub Tells-split_off : (known : Known S E P) (room : ℕ) (value : V) → room < known.room
      → Tells m known value → Tells m (split_off m.unused known room) value
  Tells-split_off known room value less told =
      let number : ℕ = known.number + (known.room - room) in
      let unused = told.spare number (omega arith) (omega arith) in
      record {
        start = told.start;
        seen = told.seen;
        own = record {
          now = unused;
          seen = entries_of-none number known.seen.log (m.log value) told.seen.log
              (ap (λ (share : Share E P). share.entries) unused);
        };
        joined = λ other among. absurd among;
        spare = λ spare above below. told.spare spare (omega arith) (omega arith);
      }

  -- the numbers that were joined to two passes have their shares in the longer of two logs
  joined_shares : (known other : Known S E P) (value : V) → Tells m known value → Tells m other value
      → IsPrefix (longer known.seen.log other.seen.log) (m.log value)
      → (given : ℕ × Share E P) → IsIn given (after_join known other).joined
      → HasShare m value (longer known.seen.log other.seen.log) given
  joined_shares known other value told also whole given among = ⊎_elim
      (λ left. HasShare-longer m value known.seen.log (longer known.seen.log other.seen.log) given
      (longer-first known.seen.log other.seen.log (m.log value) told.seen.log also.seen.log)
      whole (told.joined given left))
      (λ right. HasShare-longer m value other.seen.log (longer known.seen.log other.seen.log) given
      (longer-second known.seen.log other.seen.log (m.log value) told.seen.log also.seen.log)
      whole (⊎_elim (λ same. subst (HasShare m value other.seen.log) (sym same) also.own)
      (also.joined given) right))
      (IsIn-append given known.joined ((other.number, other.own) ∷ other.joined) among)

  pub Tells-join : (known other : Known S E P) (value : V) → Tells m known value
      → Tells m other value → Tells m (after_join known other) value
  Tells-join known other value told also =
      let whole = longer-whole known.seen.log other.seen.log (m.log value)
      told.seen.log also.seen.log in
      record {
        start = told.start;
        seen = Grew-both known.seen other.seen (growth_of m value) told.seen also.seen;
        own = HasShare-longer m value known.seen.log (longer known.seen.log other.seen.log)
            (known.number, known.own)
            (longer-first known.seen.log other.seen.log (m.log value) told.seen.log also.seen.log)
            whole told.own;
        joined = joined_shares known other value told also whole;
        spare = told.spare;
      }

  -- a pass's own entries after a turn
  pub own_entries-turn : (known : Known S E P) (before after : V) → Tells m known before
      → (turn : TakesTurn m known.number before after)
      → entries_of known.number (m.log after) ≡ known.own.entries ++ turn.added
  own_entries-turn known before after told turn =
      ap (entries_of known.number) turn.log
      ∙ entries_of-append known.number (m.log before) (under known.number turn.added)
      ∙ ap (λ log. log ++ entries_of known.number (under known.number turn.added))
      (ap (λ (share : Share E P). share.entries) told.own.now)
      ∙ ap (λ more. known.own.entries ++ more) (entries_of-under known.number turn.added)
