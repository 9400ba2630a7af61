-- The steps of a turn keep the rule: the value is put behind the turn, which is tried and freed.
use Rattle.std.proofs.Common.{ℕ, ◌≡◌, ◌≢◌, ◌∙◌, ◌+◌, ◌*◌, ◌%◌, ◌⊎◌, ⊎_elim, eqb, true, inl, inr, List, [], ◌∷◌, None, Option, Some, ap, arith, is_some, length, refl, set, slice_index, subst, sym, true≢false, unwrap_or}
use mathlib.Core.Logic.{dite}
use mathlib.Core.Option.{none, some, some-ne-none}
use lib.ListN.{get_elem?}
use native.Mathlib.Decide.{ℕ_discrete}
use prog.Atomic.{either}
use Rattle.atomic_table.specs.Table.{Act, Allows, Me, State, Valid, carried_after, gives, keeps, opening, rest, step, stepped, takes}
use Rattle.atomic_table.proofs.Lists.{exchanged}
use Rattle.turn_lock.specs.declared.known.View.{View}
use Rattle.turn_lock.specs.Turns.{IsFresh, IsUnused, Meaning, TakesTurn, growth_of}
use Rattle.turn_lock.specs.Passes.{Tells, after_turn, first_known}
use Rattle.turn_lock.specs.Rule.{Frame, HasNumber, IsDealt, IsFree, IsInTree, IsKept, IsTaken, Owns, SomePass, frame_of, frames_of}
use Rattle.turn_lock.specs.Steps.{Asks, Frees, IsResting, Tries, asking, first_view, holding, resting}
use Rattle.turn_lock.proofs.ListLemmas.{at-same, at-set, each-push, each-set}
use Rattle.turn_lock.proofs.GrowthLemmas.{Grew-self}
use Rattle.turn_lock.proofs.SeatLemmas.{EachPass-push}
use Rattle.turn_lock.proofs.TellsLemmas.{Tells-other, Tells-turn, share_of-turn}
use Rattle.turn_lock.proofs.ViewLemmas.{Placed, Placed-set, found-apart, frames-at, frames-same, with_views}

module _ {V S E P : Type 0} (m : Meaning V S E P) where
  -- the value tells what the first pass tells
  Tells-first : (value : V) → IsFresh m value → Tells m (first_known m value) value
  Tells-first value fresh = record {
    start = refl;
    seen = Grew-self (growth_of m value);
    own = record { now = refl; seen = refl };
    joined = λ other among. absurd among;
    spare = λ number above below. fresh number (λ same. omega arith);
  }

  IsDealt-first : (value : V) → IsDealt (λ _. 0) (frame_of (first_view m value) ∷ [])
  IsDealt-first value =
      let frame = frame_of (first_view m value) in
      record {
        owns = EachPass-push [] frame (Owns (λ _. 0))
            (λ seat kept at. absurd (some-ne-none kept (sym at)))
            record {
              own = refl;
              joined = λ number among. absurd among;
              spare = λ number above below. refl;
            };
        tree = EachPass-push [] frame (λ _. IsInTree (frame ∷ []))
            (λ seat kept at. absurd (some-ne-none kept (sym at)))
            record {
              children = refl;
              parent = λ parent is. absurd (true≢false (sym (ap is_some is)));
              root = λ _. refl;
            };
      }

  -- the table begins with the rule kept
  pub starts : (value : V) (word : ℕ) → word ≡ 2 * length (m.log value) → IsFresh m value
      → IsKept m (opening (word ∷ []) (Some value ∷ []) (first_view m value))
  starts value word word_is fresh = record {
    owner = λ _. 0;
    value = value;
    dealt = IsDealt-first value;
    tells = each-push [] (first_view m value) (λ _ view. view.lives ≡ true → Tells m view.known value)
        (λ seat kept at. absurd (some-ne-none kept (sym at))) (λ _. Tells-first value fresh);
    covered = λ number. dite (ℕ_discrete number 0)
        (λ zero. inl record {
          seat = 0;
          frame = frame_of (first_view m value);
          at = refl;
          lives = refl;
          fact = inl zero;
        })
        (λ other. inr (fresh number other));
    place = inl record {
      words = ap (λ number. number ∷ []) word_is;
      homes = refl;
      found = each-push [] (first_view m value) (λ _ view. view.found ≡ None)
          (λ seat kept at. absurd (some-ne-none kept (sym at))) refl;
    };
  }

  -- the word of a table that keeps the rule is its only one
  one_word : (s : State (Option V) (View V S E P)) → IsKept m s
      → (word : ℕ) × (s.words ≡ word ∷ [])
  one_word s kept = ⊎_elim (λ free. (2 * length (m.log kept.value), free.words))
      (λ taken. (2 * length (m.log kept.value) + 1, taken.words)) kept.place

  -- the only word, set to what it is
  same_words : (words : List ℕ) (word : ℕ) → words ≡ word ∷ []
      → words ≡ set words 0 (slice_index words 0)
  same_words words word is =
      subst (λ words. words ≡ set words 0 (slice_index words 0)) (sym is) refl

  -- a step that leaves the word, and changes a view without the turn in nothing that shows
  stays : (s : State (Option V) (View V S E P)) (seat : ℕ) (old new : View V S E P)
      (slots : List (ℕ × Option V)) → IsKept m s → get_elem? s.views seat ≡ some old
      → frame_of new ≡ frame_of old → new.known ≡ old.known → old.found ≡ None → new.found ≡ None
      → IsKept m (stepped s 0 (slice_index s.words 0) seat slots new keeps)
  stays s seat old new slots kept at frame known lacked lacks =
      let same = frames-same s.views seat old new at frame in
      let word = one_word s kept in
      let later : IsKept m (with_views s (set s.views seat new)) = record {
        owner = kept.owner;
        value = kept.value;
        dealt = subst (IsDealt kept.owner) (sym same) kept.dealt;
        tells = each-set s.views seat new (λ _ view. view.lives ≡ true → Tells m view.known kept.value)
            (λ other view _ there. kept.tells other view there)
            (λ lives. subst (λ known. Tells m known kept.value) (sym known)
            (kept.tells seat old at (ap (λ (frame : Frame). frame.lives) (sym frame) ∙ lives)));
        covered = λ number. subst (λ frames. SomePass frames (λ frame. HasNumber frame number)
            ⊎ IsUnused m kept.value number) (sym same) (kept.covered number);
        place = Placed-set m s kept.value seat old new at lacked lacks kept.place;
      } in
      subst (λ words. IsKept m record { words = words; homes = s.homes; views = set s.views seat new })
      (same_words s.words word.0 word.1) later

  -- the turn is taken in a table in which it is free
  takes_turn : (s : State (Option V) (View V S E P)) (seat : ℕ) (me : Me (Option V) (View V S E P))
      (old : ℕ) → IsResting me → (kept : IsKept m s) → (free : IsFree m s kept.value)
      → get_elem? s.views seat ≡ some me.0 → slice_index s.words 0 ≡ old
      → IsKept m (stepped s 0 (old + 1) seat me.1 (holding me.0.known kept.value)
      (takes 0 (Some kept.value)))
  takes_turn s seat me old rests kept free at word =
      let new = holding me.0.known kept.value in
      let same = frames-same s.views seat me.0 new at
      (sym (ap (λ (view : View V S E P). frame_of view) rests.view)) in
      let twice : slice_index s.words 0 ≡ 2 * length (m.log kept.value) =
      ap (λ words. slice_index words 0) free.words in
      let next : old + 1 ≡ 2 * length (m.log kept.value) + 1 = omega (arith, word, twice) in
      record {
        owner = kept.owner;
        value = kept.value;
        dealt = subst (IsDealt kept.owner) (sym same) kept.dealt;
        tells = each-set s.views seat new (λ _ view. view.lives ≡ true → Tells m view.known kept.value)
            (λ other view _ there. kept.tells other view there)
            (λ _. kept.tells seat me.0 at (ap (λ (view : View V S E P). view.lives) rests.view));
        covered = λ number. subst (λ frames. SomePass frames (λ frame. HasNumber frame number)
            ⊎ IsUnused m kept.value number) (sym same) (kept.covered number);
        place = inr record {
          words = ap (λ words. set words 0 (old + 1)) free.words ∙ ap (λ word. word ∷ []) next;
          homes = ap (λ homes. set homes 0 none) free.homes;
          holder = seat;
          view = new;
          at = at-set s.views seat me.0 new at;
          lives = refl;
          found = refl;
          others = λ other view apart there. each-set s.views seat new
              (λ place view. place ≢ seat → view.found ≡ None)
              (λ place view _ at _. free.found place view at) (λ apart. absurd (apart refl))
              other view there apart;
        };
      }

  -- the turn is tried
  pub tries : (slots seat : ℕ) (me : Me (Option V) (View V S E P)) (old : ℕ) → IsResting me
      → old % 2 ≡ 0
      → Allows (IsKept m) slots seat me 0 (λ word. either (eqb word old) (old + 1) word)
      (Tries m (step slots 0 old (old + 1) none) me)
  tries slots seat me old rests even s kept long at below =
      exchanged (slice_index s.words 0) old (old + 1)
      (λ word. (view : View V S E P) × (act : Act (Option V)) × Valid s.homes me.1 act
      × IsKept m (stepped s 0 word seat me.1 view act)
      × Tries m (step slots 0 old (old + 1) none) me (slice_index s.words 0)
      (view, carried_after me.1 act))
      (λ found. ⊎_elim
      (λ free. (
        holding me.0.known kept.value,
        takes 0 (Some kept.value),
        ap (λ homes. get_elem? homes 0) free.homes,
        takes_turn s seat me old rests kept free at found,
        (
          (λ _. (
            kept.value,
            refl,
            kept.tells seat me.0 at
                (ap (λ (view : View V S E P). view.lives) rests.view),
          )),
          (λ apart. absurd (apart found)),
        ),
      ))
      (λ taken. absurd (odd (length (m.log kept.value))
      (sym found ∙ ap (λ words. slice_index words 0) taken.words)))
      kept.place)
      (λ apart. (
        me.0,
        keeps,
        tt,
        stays s seat me.0 me.0 me.1 kept at refl refl lacks lacks,
        ((λ same. absurd (apart same)), (λ _. refl)),
      ))
    where
      lacks : me.0.found ≡ None
      lacks = ap (λ (view : View V S E P). view.found) rests.view

      odd : (size : ℕ) → old ≡ 2 * size + 1 → ⊥
      odd size is = omega (arith, even, is)

  -- the room of the next split is set down
  pub asks : (slots seat : ℕ) (me : Me (Option V) (View V S E P)) (room : ℕ) → IsResting me
      → Allows (IsKept m) slots seat me 0 (λ word. either (eqb word room) room word)
      (Asks (step slots 0 room room none) me)
  asks slots seat me room rests s kept long at below =
      exchanged (slice_index s.words 0) room room
      (λ word. (view : View V S E P) × (act : Act (Option V)) × Valid s.homes me.1 act
      × IsKept m (stepped s 0 word seat me.1 view act)
      × Asks (step slots 0 room room none) me (slice_index s.words 0)
      (view, carried_after me.1 act))
      (λ found. (
        asking me.0.known room,
        keeps,
        tt,
        subst (λ word. IsKept m (stepped s 0 word seat me.1 (asking me.0.known room) keeps))
            found later,
        refl,
      ))
      (λ _. (asking me.0.known room, keeps, tt, later, refl))
    where
      later : IsKept m (stepped s 0 (slice_index s.words 0) seat me.1 (asking me.0.known room) keeps)
      later = stays s seat me.0 (asking me.0.known room) me.1 kept at
          (sym (ap (λ (view : View V S E P). frame_of view) rests.view)) refl
          (ap (λ (view : View V S E P). view.found) rests.view) refl

module _ {V S E P : Type 0} (m : Meaning V S E P) (s : State (Option V) (View V S E P)) (seat : ℕ)
    (view : View V S E P) (before after : V) (lives : view.lives ≡ true)
    (found : view.found ≡ Some before) (turn : TakesTurn m view.known.number before after)
    (kept : IsKept m s) (at : get_elem? s.views seat ≡ some view) where
  -- a seat that found a value has the turn
  holds_turn : Placed m s kept.value → (taken : IsTaken m s kept.value) × (seat ≡ taken.holder)
  holds_turn = ⊎_elim
      (λ free. absurd (found-apart before view.found view.found found
      (free.found seat view at) refl))
      (λ taken. (
        taken,
        dite (ℕ_discrete seat taken.holder) (λ same. same)
            (λ apart. absurd (found-apart before view.found view.found found
            (taken.others seat view apart at) refl)),
      ))

  -- and what it found is the value of the table
  same_value : before ≡ kept.value
  same_value =
      let held = holds_turn kept.place in
      let here : view ≡ held.0.view = at-same s.views seat view held.0.view at
      (subst (λ place. get_elem? s.views place ≡ some held.0.view) (sym held.1) held.0.at) in
      ap (λ told. unwrap_or told before)
      (sym found ∙ ap (λ (view : View V S E P). view.found) here ∙ held.0.found)

  turn_now : TakesTurn m view.known.number kept.value after
  turn_now = subst (λ value. TakesTurn m view.known.number value after) same_value turn

  abbrev left : View V S E P
  left = resting (after_turn m view.known after)

  frames : frames_of (set s.views seat left) ≡ frames_of s.views
  frames = frames-same s.views seat view left at
      (λ i. record (frame_of view) { lives = sym lives i })

  owns : (place : ℕ) (other : View V S E P) → get_elem? s.views place ≡ some other
      → other.lives ≡ true → Owns kept.owner place (frame_of other)
  owns place other there living =
      kept.dealt.owns place (frame_of other) (frames-at s.views place other there) living

  left_tells : (place : ℕ) (other : View V S E P) → get_elem? (set s.views seat left) place ≡ some other
      → other.lives ≡ true → Tells m other.known after
  left_tells = each-set s.views seat left (λ _ other. other.lives ≡ true → Tells m other.known after)
      (λ place other apart there living.
      Tells-other m kept.owner place (frame_of other) other.known refl refl refl
      (owns place other there living) view.known.number seat kept.value after turn_now
      (owns seat view at lives).own apart (kept.tells place other there living))
      (λ _. Tells-turn m kept.owner seat (frame_of view) view.known refl refl refl
      (owns seat view at lives) kept.value after turn_now (kept.tells seat view at lives))

  left_covers : (number : ℕ)
      → SomePass (frames_of s.views) (λ frame. HasNumber frame number) ⊎ IsUnused m after number
  left_covers number = ⊎_elim inl
      (λ unused. dite (ℕ_discrete number view.known.number)
      (λ same. inl record {
        seat = seat;
        frame = frame_of view;
        at = frames-at s.views seat view at;
        lives = lives;
        fact = inl same;
      })
      (λ apart. inr (share_of-turn m view.known.number number kept.value after turn_now apart
      ∙ unused)))
      (kept.covered number)

  left_is_free : (taken : IsTaken m s kept.value) → seat ≡ taken.holder
      → (word : ℕ) → word ≡ 2 * length (m.log after)
      → IsFree m record {
        words = set s.words 0 word;
        homes = set s.homes 0 (some (Some after));
        views = set s.views seat left;
      } after
  left_is_free taken holds word word_is = record {
    words = ap (λ words. set words 0 word) taken.words ∙ ap (λ word. word ∷ []) word_is;
    homes = ap (λ homes. set homes 0 (some (Some after))) taken.homes;
    found = each-set s.views seat left (λ _ view. view.found ≡ None)
        (λ place other apart there. taken.others place other (λ same. apart (same ∙ sym holds)) there)
        refl;
  }

  pub frees_turn : (slots : List (ℕ × Option V)) (word : ℕ) → word ≡ 2 * length (m.log after)
      → IsKept m (stepped s 0 word seat ((0, Some after) ∷ slots) left gives)
  frees_turn slots word word_is =
      let held = holds_turn kept.place in
      record {
        owner = kept.owner;
        value = after;
        dealt = subst (IsDealt kept.owner) (sym frames) kept.dealt;
        tells = left_tells;
        covered = λ number. subst (λ frames. SomePass frames (λ frame. HasNumber frame number)
            ⊎ IsUnused m after number) (sym frames) (left_covers number);
        place = inl (left_is_free held.0 held.1 word word_is);
      }

module _ {V S E P : Type 0} (m : Meaning V S E P) where
  -- the turn is freed
  pub frees : (count seat : ℕ) (me : Me (Option V) (View V S E P)) (slots : List (ℕ × Option V))
      (before after : V) (word : ℕ) → me.1 ≡ (0, Some after) ∷ slots → me.0.lives ≡ true
      → me.0.found ≡ Some before → TakesTurn m me.0.known.number before after
      → word ≡ 2 * length (m.log after)
      → Allows (IsKept m) count seat me 0 (λ _. word)
      (λ _. Frees m (step count 0 word 0 none) me word)
  frees count seat me slots before after word slots_are lives found turn word_is s kept long at below = (
    resting (after_turn m me.0.known after),
    gives,
    tt,
    subst (λ slots. IsKept m (stepped s 0 word seat slots (resting (after_turn m me.0.known after)) gives))
        (sym slots_are)
        (frees_turn m s seat me.0 before after lives found turn kept at slots word word_is),
    (after, slots_are ∙ ap (λ slots. (0, Some after) ∷ rest slots) (sym slots_are), refl),
  )
