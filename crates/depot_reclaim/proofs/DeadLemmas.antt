-- How far a search for dead versions came, and what the version that it stops at tells.
use Rattle.std.proofs.Common.{◌≡◌, ◌∙◌, ◌<◌, ◌+◌, ℕ, refl, sym, arith}
use Rattle.std.specs.Prelude.{true, false}
use Rattle.std.specs.Ordering.{is_eq, is_gt, nat_cmp, ordering_then}
use Rattle.std.specs.BTreeMap.{is_at}
use Rattle.std.specs.declared.cmp.Ordering.{Ordering}
use Rattle.std.specs.declared.cmp.Ordering.TheVariants.{Less, Equal, Greater}
use Rattle.std.proofs.lemmas.Bool.{false_from_ne_true, false≢true}
use Rattle.std.proofs.lemmas.Bool.Decides.{nat_tests}
use Rattle.std.proofs.lemmas.Cmp.{tied_itself, upto}
use Rattle.desc_types.specs.declared.table.Key.{Key}
use Rattle.desc_types.specs.Keys.{key_cmp}
use Rattle.query_pin.specs.declared.dead.Dead.{Dead}
use Rattle.query_pin.specs.declared.input.Input.{Input}
use Rattle.query_pin.specs.Inputs.{input_cmp}
use Rattle.query_pin.specs.Held.{IsNextReplaced, version_of}
use Rattle.query_pin.specs.Kept.{IsFrom, KeptListOf}
use Rattle.query_pin.specs.Pins.{PinBookOf, is_pinned}
use Rattle.query_pin.proofs.AheadLemmas.{ahead, ahead-after}
use Rattle.query_pin.proofs.OrderLemmas.{input_cmp-same, is_gt-first, key_cmp-total}
use Rattle.depot_reclaim.specs.Dead.{IsDead, IsFromKey, IsLeastDead}

-- all dead versions from a partition on are from a version on, which is of no partition before it
pub record HasSearched (kept : KeptListOf) (pins : PinBookOf) (from : Key) (next : Input)
    : Type 0 where
  pub not_before : IsFromKey from next
  pub ahead : (read : Input) → IsFromKey from read → IsDead kept pins read → IsFrom next read

-- the search begins with the first version of the partition
pub HasSearched-start : (kept : KeptListOf) (pins : PinBookOf) (from : Key)
    → HasSearched kept pins from (record { key = from; version = 0 })
HasSearched-start kept pins from = record {
  not_before = rw (tied_itself key_cmp-total from) refl;
  ahead = λ read not_before _. first (key_cmp from read.key) read.version not_before;
}
  where
    first : (order : Ordering) (version : ℕ) → is_gt order ≡ false
        → is_gt (ordering_then order (nat_cmp 0 version)) ≡ false
    first Less version upto = refl
    first Equal version upto = grind (arith, nat_tests)
    first Greater version never = absurd (false≢true (sym never))

-- a version from one on, that is not that one, is from the next number on
IsFrom-after : (key : Key) (version : ℕ) (read : Input)
    → IsFrom (record { key = key; version = version }) read
    → (is_at (input_cmp (record { key = key; version = version })) read ≡ false)
    → IsFrom (record { key = key; version = version + 1 }) read
IsFrom-after key version read from apart =
    after (key_cmp key read.key) version read.version from apart
  where
    after : (order : Ordering) (version other : ℕ)
        → is_gt (ordering_then order (nat_cmp version other)) ≡ false
        → is_eq (ordering_then order (nat_cmp version other)) ≡ false
        → is_gt (ordering_then order (nat_cmp (version + 1) other)) ≡ false
    after Less version other upto apart = refl
    after Equal version other upto apart = grind (arith, nat_tests, upto, apart)
    after Greater version other never apart = absurd (false≢true (sym never))

-- the replaced version that was found is of no partition before the first
found-not_before : (kept : KeptListOf) (pins : PinBookOf) (from : Key) (next : Input)
    (found : Dead) → HasSearched kept pins from next → IsFrom next (version_of found)
    → IsFromKey from (version_of found)
found-not_before kept pins from next found searched there =
    upto key_cmp-total from next.key found.key searched.not_before
    (is_gt-first (key_cmp next.key found.key) (nat_cmp next.version found.version) there)

-- a replaced version that is pinned is passed, and the search goes on after it
pub HasSearched-pinned : (kept : KeptListOf) (pins : PinBookOf) (from : Key) (next : Input)
    (found : Dead) → HasSearched kept pins from next → IsNextReplaced kept next found
    → is_pinned pins.pins (version_of found) ≡ true
    → HasSearched kept pins from (record { key = found.key; version = found.version + 1 })
HasSearched-pinned kept pins from next found searched is pinned = record {
  not_before = found-not_before kept pins from next found searched is.not_before;
  ahead = λ read not_before dead.
      IsFrom-after found.key found.version read
      (is.first read (searched.ahead read not_before dead)
      (record { held = dead.held; replaced = dead.replaced }))
      (false_from_ne_true (is_at (input_cmp (version_of found)) read) (λ at.
      false≢true (sym dead.unread
      ∙ rw (← input_cmp-same (version_of found) read at) pinned)));
}

-- one that is not pinned is the first dead one
pub IsLeastDead-found : (kept : KeptListOf) (pins : PinBookOf) (from : Key) (next : Input)
    (found : Dead) → HasSearched kept pins from next → IsNextReplaced kept next found
    → is_pinned pins.pins (version_of found) ≡ false → IsLeastDead kept pins from found
IsLeastDead-found kept pins from next found searched is unread = record {
  entry = is.entry;
  dead = record { held = rw is.entry refl; replaced = is.replaced; unread = unread };
  not_before = found-not_before kept pins from next found searched is.not_before;
  least = λ read not_before dead. is.first read (searched.ahead read not_before dead)
      (record { held = dead.held; replaced = dead.replaced });
}

-- after a replaced version fewer are ahead than before
pub ahead-next : (kept : KeptListOf) (next : Input) (found : Dead) → IsNextReplaced kept next found
    → ahead kept (record { key = found.key; version = found.version + 1 }) < ahead kept next
ahead-next kept next found is =
    ahead-after kept next (version_of found)
    (record { key = found.key; version = found.version + 1 })
    (record { held = rw is.entry refl; replaced = is.replaced }) is.not_before
    (rw (tied_itself key_cmp-total found.key) (grind (arith, nat_tests)))
