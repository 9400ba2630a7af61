-- What is pinned is at hand, and stays so: as the journal grows, as pins come and go, and as dead
-- versions are dropped.
use Rattle.std.proofs.Common.{List, Some, [], ap, arith, get_or, refl, subst, sym, true, ℕ, ◌∙◌}
use Rattle.std.proofs.Common.{◌∷◌, ◌≡◌}
use Rattle.std.specs.Prelude.{All, Bool, IfSome, IsSome, None, Option, false, if◌then◌else◌, ◌==◌}
use Rattle.std.proofs.lemmas.Bool.{or_parts}
use Rattle.std.proofs.lemmas.List.Elements.{All-weaker}
use Rattle.std.proofs.lemmas.Option.{IfSome_then}
use Rattle.desc_types.specs.Descriptions.{DescOf}
use Rattle.desc_types.proofs.ListLemmas.{list_any-none}
use Rattle.view_meaning.specs.declared.journal.Entry.{Entry}
use Rattle.view_meaning.proofs.VersionLemmas.{version-le}
use Rattle.query_pin.specs.declared.input.Input.{Input}
use Rattle.query_pin.specs.Inputs.{is_read, is_version}
use Rattle.query_pin.specs.Kept.{KeptListOf, entry_in}
use Rattle.query_pin.specs.Pins.{AreInOrder, PinOf, is_pinned, pin_at, versions_at, versions_of}
use Rattle.query_pin.specs.Pins.{with_pin, without_pin}
use Rattle.query_pin.proofs.PinLemmas.{is_pinned-without_pin, pin_at-with_pin, pin_at-without_pin}
use Rattle.machine_meaning.specs.Events.{HoldsBut, with_entry}
use Rattle.machine_meaning.specs.States.{IsAtHand}
use Rattle.machine_meaning.proofs.HeldLemmas.{IsSome-but}

-- what is at hand stays so with an entry more, if what is held stays held
IsAtHand-push : (desc : DescOf) (journal : List Entry) (next : Entry) (old new : KeptListOf)
    (read : Input) → (IsSome (entry_in old read) → IsSome (entry_in new read))
    → IsAtHand desc journal old read → IsAtHand desc (with_entry journal next) new read
IsAtHand-push desc journal next old new read stays hand = record {
  known = omega (arith, hand.known, version-le desc journal (next ∷ []) read.key);
  there = λ view some. stays (hand.there view some);
}

-- each version that is pinned is at hand
abbrev pub ArePinned : DescOf → List Entry → List (ℕ × PinOf) → KeptListOf → Type 0
ArePinned desc journal pins held = (id : ℕ)
    → IfSome (pin_at pins id) (λ pin. All (IsAtHand desc journal held) pin.versions)

-- it stays so with an entry more, if what is held stays held
pub ArePinned-push : (desc : DescOf) (journal : List Entry) (next : Entry)
    (pins : List (ℕ × PinOf)) (old new : KeptListOf)
    → ((read : Input) → IsSome (entry_in old read) → IsSome (entry_in new read))
    → ArePinned desc journal pins old → ArePinned desc (with_entry journal next) pins new
ArePinned-push desc journal next pins old new stays are id =
    IfSome_then (pin_at pins id) (are id)
    (λ pin all. All-weaker (IsAtHand desc journal old) (IsAtHand desc (with_entry journal next) new)
    (λ read hand. IsAtHand-push desc journal next old new read (stays read) hand)
    pin.versions all)

-- each version that is pinned is at hand, if that is so before and of one more pin
pub ArePinned-with_pin : (desc : DescOf) (journal : List Entry) (pins : List (ℕ × PinOf))
    (held : KeptListOf) (id : ℕ) (pin : PinOf) → ArePinned desc journal pins held
    → All (IsAtHand desc journal held) pin.versions
    → ArePinned desc journal (with_pin id pin pins) held
ArePinned-with_pin desc journal pins held id pin are own other =
    subst (λ (found : Option PinOf). IfSome found
    (λ pin. All (IsAtHand desc journal held) pin.versions))
    (sym (pin_at-with_pin id pin pins other)) (either (other == id))
  where
    either : (same : Bool) → IfSome (if same then Some pin else pin_at pins other)
        (λ pin. All (IsAtHand desc journal held) pin.versions)
    either true = own
    either false = are other

-- and it stays so without a pin
pub ArePinned-without_pin : (desc : DescOf) (journal : List Entry) (pins : List (ℕ × PinOf))
    (held : KeptListOf) (id : ℕ) → AreInOrder pins → ArePinned desc journal pins held
    → ArePinned desc journal (without_pin id pins) held
ArePinned-without_pin desc journal pins held id ordered are other =
    subst (λ (found : Option PinOf). IfSome found
    (λ pin. All (IsAtHand desc journal held) pin.versions))
    (sym (pin_at-without_pin id pins other ordered)) (either (id == other))
  where
    either : (same : Bool) → IfSome (if same then None else pin_at pins other)
        (λ pin. All (IsAtHand desc journal held) pin.versions)
    either true = tt
    either false = are other

-- a version that is not pinned is not what a pin keeps
All-unread : (pins : List (ℕ × PinOf)) (dead : Input) (id : ℕ) (pin : PinOf)
    → is_pinned pins dead ≡ false → pin_at pins id ≡ Some pin
    → All (λ read. is_version dead read ≡ false) pin.versions
All-unread pins dead id pin unread is =
    let kept : is_read (versions_at pins id) dead ≡ false =
    (or_parts (is_read (versions_at pins id) dead) (is_pinned (without_pin id pins) dead)
    (sym (is_pinned-without_pin id pins dead) ∙ unread)).0 in
    list_any-none (is_version dead) pin.versions
    (ap (λ (found : Option PinOf). is_read (versions_of found) dead) (sym is) ∙ kept)

-- what is at hand stays so without another version
IsAtHand-but : (desc : DescOf) (journal : List Entry) (old new : KeptListOf) (dead read : Input)
    → HoldsBut old new dead → is_version dead read ≡ false → IsAtHand desc journal old read
    → IsAtHand desc journal new read
IsAtHand-but desc journal old new dead read but apart hand = record {
  known = hand.known;
  there = λ view some. IsSome-but old new dead but read apart (hand.there view some);
}

-- each version that is pinned stays at hand without one that is not
pub ArePinned-but : (desc : DescOf) (journal : List Entry) (pins : List (ℕ × PinOf))
    (old new : KeptListOf) (dead : Input) → is_pinned pins dead ≡ false → HoldsBut old new dead
    → ArePinned desc journal pins old → ArePinned desc journal pins new
ArePinned-but desc journal pins old new dead unread but are id =
    at_pin (pin_at pins id) refl (are id)
  where
    at_pin : (found : Option PinOf) → pin_at pins id ≡ found
        → IfSome found (λ pin. All (IsAtHand desc journal old) pin.versions)
        → IfSome found (λ pin. All (IsAtHand desc journal new) pin.versions)
    at_pin None is all = tt
    at_pin (Some pin) is all = λ index default within.
        IsAtHand-but desc journal old new dead (get_or pin.versions index default) but
        (All-unread pins dead id pin unread is index default within) (all index default within)
