-- What the fields of a pass say of its seat, and that they say it after each step.
use Rattle.std.proofs.Common.{ℕ, ◌≡◌, ◌∙◌, ◌+◌, ◌-◌, ◌<◌, ◌≤◌, [], Option, ap, arith, length, max, refl, subst, sym}
use Rattle.atomic_table.specs.Table.{Me}
use Rattle.turn_lock.specs.declared.known.View.{View}
use Rattle.turn_lock.specs.Steps.{IsResting, asking, joined_view, left_view, right_view}
use Rattle.turn_lock.proofs.GrowthLemmas.{by_longer}

module _ {V S E P : Type 0} where
  -- the seat is that of a pass with these fields
  pub record Shows (number room seen : ℕ) (me : Me (Option V) (View V S E P)) : Type 0 where
    pub rests : IsResting me
    pub number_is : number ≡ me.0.known.number
    pub room_is : room ≡ me.0.known.room
    pub seen_is : seen ≡ length me.0.known.seen.log
    pub within : number + room ≤ 4294967294

  -- a pass that was split
  pub Shows-split : (number room seen less : ℕ) (before asked after : Me (Option V) (View V S E P))
      → Shows number room seen before → less < before.0.known.room
      → asked ≡ (asking before.0.known less, before.1) → after ≡ (left_view asked.0, asked.1)
      → Shows number (room - less - 1) seen after
  Shows-split number room seen less before asked after shows fits asks splits =
      subst (Shows number (room - less - 1) seen)
      (sym (splits ∙ ap (λ me. (left_view me.0, me.1)) asks))
      record {
        rests = record { slots = shows.rests.slots; view = refl };
        number_is = shows.number_is;
        room_is = ap (λ room. room - less - 1) shows.room_is;
        seen_is = shows.seen_is;
        within = omega (arith, shows.within);
      }

  -- the pass that was split off
  pub Shows-split_off : (unused : P) (number room seen less : ℕ)
      (before asked after : Me (Option V) (View V S E P))
      → Shows number room seen before → less < before.0.known.room
      → asked ≡ (asking before.0.known less, before.1) → after ≡ (right_view unused asked.0, [])
      → Shows (number + (room - less)) less seen after
  Shows-split_off unused number room seen less before asked after shows fits asks splits =
      subst (Shows (number + (room - less)) less seen)
      (sym (splits ∙ ap (λ me. (right_view unused me.0, [])) asks))
      record {
        rests = record { slots = refl; view = refl };
        number_is = rw (shows.number_is, shows.room_is) refl;
        room_is = refl;
        seen_is = shows.seen_is;
        within = omega (arith, shows.within, shows.room_is, fits);
      }

  -- a pass to which another was joined
  pub Shows-join : (number room seen also_seen latest : ℕ)
      (before other after : Me (Option V) (View V S E P))
      → Shows number room seen before → also_seen ≡ length other.0.known.seen.log
      → latest ≡ max seen also_seen → after ≡ (joined_view before.0 other.0, before.1)
      → Shows number room latest after
  Shows-join number room seen also_seen latest before other after shows also is joins =
      subst (Shows number room latest) (sym joins)
      record {
        rests = record { slots = shows.rests.slots; view = refl };
        number_is = shows.number_is;
        room_is = shows.room_is;
        seen_is = by_longer (λ log. latest ≡ length log) before.0.known.seen.log
            other.0.known.seen.log (λ shorter. omega (arith, is, also, shows.seen_is, shorter))
            (λ longer. omega (arith, is, also, shows.seen_is, longer));
        within = shows.within;
      }
