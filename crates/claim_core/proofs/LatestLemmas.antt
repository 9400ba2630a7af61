-- Just the latest versions are held after an install too, if its version is held in place of the one
-- before (`HoldsLatest-install`).
use Rattle.std.proofs.Common.{◌≡◌, ◌∙◌, ◌<◌, ◌+◌, ◌-◌, ℕ, List, Some, ap, arith, length}
use Rattle.std.proofs.Common.{refl, subst, sym, true}
use Rattle.std.specs.Prelude.{Bool, IsSome, IsSomeAnd, None, Option, false, if◌then◌else◌, slice_get}
use Rattle.std.specs.Prelude.{◌==◌}
use Rattle.std.proofs.lemmas.Bool.{and_from, both_ways, eq-eqb, false≢true}
use Rattle.desc_types.specs.declared.table.Key.{Key}
use Rattle.desc_types.specs.Descriptions.{DescOf}
use Rattle.view_meaning.specs.declared.journal.Entry.{Entry}
use Rattle.view_meaning.specs.declared.journal.Entry.TheVariants as entry
use Rattle.view_meaning.specs.Partitions.{is_key}
use Rattle.view_meaning.specs.Versions.{installs, is_raw, version}
use Rattle.view_meaning.proofs.AmongLemmas.{is_key-itself, is_key-same}
use Rattle.query_pin.specs.declared.dead.Dead.{Dead}
use Rattle.query_pin.specs.declared.input.Input.{Input}
use Rattle.query_pin.specs.Held.{version_of}
use Rattle.query_pin.specs.Inputs.{is_version}
use Rattle.query_pin.specs.Kept.{KeptListOf, SameKept, entry_in, newest_in}
use Rattle.query_pin.proofs.OrderLemmas.{is_version-same}
use Rattle.machine_meaning.specs.Events.{HoldsLatest, IsLatest, made, with_entry}
use Rattle.machine_meaning.specs.States.{IsMadeBy, latest}
use Rattle.machine_meaning.proofs.EntryLemmas.{MayBeHeld-made, MayBeHeld-push, version-Install}
use Rattle.machine_meaning.proofs.EntryLemmas.{version-push}
use Rattle.machine_meaning.proofs.HeldLemmas.{is_key-swap}
use Rattle.claim_core.specs.Cores.{HoldsInstead}

-- the version that an install after a journal makes, with its entry
abbrev pub made_entry : DescOf → List Entry → Key → Dead
made_entry desc journal key = record {
  key = key;
  version = version desc journal key + 1;
  entry = length journal + 1;
}

-- the version before another
abbrev before : Dead → Input
before next = record { key = next.key; version = next.version - 1 }

-- the journal after an install
abbrev pub with_install_at : List Entry → Key → (at : ℕ) → List Entry
with_install_at journal key at = with_entry journal (entry.Install key at)

-- a list that tells the same before makes no difference
HoldsInstead-same : (old mid new : KeptListOf) (next : Dead) → SameKept old mid
    → HoldsInstead mid new next → HoldsInstead old new next
HoldsInstead-same old mid new next same holds = record {
  entries = λ read. rw (← same.entry read) (holds.entries read);
  newest = λ key. rw (← same.newest key) (holds.newest key);
}

-- versions of other partitions are held as before
entry_in-other : (old new : KeptListOf) (next : Dead) (read : Input) → HoldsInstead old new next
    → is_key next.key read.key ≡ false → entry_in new read ≡ entry_in old read
entry_in-other old new next read holds apart = holds.entries read ∙ rw apart refl

-- the next version is held with its entry
entry_in-made : (old new : KeptListOf) (next : Dead) → HoldsInstead old new next
    → entry_in new (version_of next) ≡ Some next.entry
entry_in-made old new next holds =
    holds.entries (version_of next)
    ∙ rw (is_key-itself next.key, eq-eqb next.version next.version refl) refl

-- if just the latest versions are held, that of the partition is the version before the next one
is_before-held : (desc : DescOf) (journal : List Entry) (key : Key) (old : KeptListOf)
    (read : Input) → HoldsLatest desc journal old → IsSome (entry_in old read)
    → is_key key read.key ≡ true → is_version (before (made_entry desc journal key)) read ≡ true
is_before-held desc journal key old read holds held same =
    and_from (is_key key read.key) (read.version == version desc journal key + 1 - 1) same
    (eq-eqb read.version (version desc journal key + 1 - 1) (omega (
      arith,
      (holds.others read held).last,
      ap (version desc journal) (is_key-same key read.key same),
    )))

-- so after that only the next version of the partition is held
is_made-held : (desc : DescOf) (journal : List Entry) (key : Key) (old new : KeptListOf)
    (read : Input) → HoldsLatest desc journal old
    → HoldsInstead old new (made_entry desc journal key)
    → IsSome (entry_in new read) → is_key key read.key ≡ true → read ≡ made desc journal key
is_made-held desc journal key old new read holds instead there same =
    either (is_version (version_of next) read) (is_version (before next) read) refl refl
    (subst (λ (found : Option ℕ). IsSome found) (instead.entries read) there)
  where
    next : Dead
    next = made_entry desc journal key

    either : (is was : Bool) → is_version (version_of next) read ≡ is
        → is_version (before next) read ≡ was
        → IsSome (if is then Some next.entry else if was then None else entry_in old read)
        → read ≡ made desc journal key
    either true was is_next is_before held = is_version-same (made desc journal key) read is_next
    either false true is_next is_before held = absurd (false≢true held)
    either false false is_next is_before held = absurd (both_ways (is_version (before next) read)
        is_before (is_before-held desc journal key old read holds held same))

-- the made version is the latest one
IsLatest-made : (desc : DescOf) (journal : List Entry) (key : Key) (at : ℕ)
    → is_raw (slice_get desc.tables key.table) ≡ false
    → IsLatest desc (with_install_at journal key at) (made desc journal key)
IsLatest-made desc journal key at view = record {
  view = view;
  some = omega arith;
  last = sym (version-Install desc journal (entry.Install key at) key view (is_key-itself key));
}

-- a latest version stays the latest one after an entry that does not install its partition
IsLatest-push : (desc : DescOf) (journal : List Entry) (next : Entry) (read : Input)
    → installs read.key next ≡ false → IsLatest desc journal read
    → IsLatest desc (with_entry journal next) read
IsLatest-push desc journal next read other last = record {
  view = last.view;
  some = last.some;
  last = last.last ∙ sym (version-push desc journal next read.key last.view other);
}

-- what is known of the entry of a version that made it is known in a journal that goes on
IsMadeBy-push : (desc : DescOf) (journal : List Entry) (next : Entry) (read : Input)
    (held : Option ℕ) → is_raw (slice_get desc.tables read.key.table) ≡ false
    → IsSomeAnd held (IsMadeBy journal read) → IsSomeAnd held (IsMadeBy (with_entry journal next) read)
IsMadeBy-push desc journal next read None view is = is
IsMadeBy-push desc journal next read (Some entry) view is =
    (MayBeHeld-push desc journal next read entry (record { view = view; made = is })).made

-- a version is held with the entry that made it
abbrev IsHeldWith : List Entry → KeptListOf → Input → Type 0
IsHeldWith journal held read = IsSomeAnd (entry_in held read) (IsMadeBy journal read)

-- the latest version of another partition is held as before
latest-other : (desc : DescOf) (journal : List Entry) (key : Key) (at : ℕ) (old new : KeptListOf)
    (other : Key) → is_raw (slice_get desc.tables other.table) ≡ false
    → HoldsLatest desc journal old → HoldsInstead old new (made_entry desc journal key)
    → is_key key other ≡ false → 0 < version desc (with_install_at journal key at) other
    → IsHeldWith (with_install_at journal key at) new
    (latest desc (with_install_at journal key at) other)
latest-other desc journal key at old new other view holds instead apart some =
    let next = entry.Install key at in
    let number : version desc (with_entry journal next) other ≡ version desc journal other =
    version-push desc journal next other view (is_key-swap key other apart) in
    let read : Input = latest desc journal other in
    subst (λ (read : Input). IsHeldWith (with_entry journal next) new read)
    (λ i. record { key = other; version = sym number i })
    (subst (λ (held : Option ℕ). IsSomeAnd held (IsMadeBy (with_entry journal next) read))
    (sym (entry_in-other old new (made_entry desc journal key) read instead apart))
    (IsMadeBy-push desc journal next read (entry_in old read) view
    (holds.latest other view (omega (arith, some, number)))))

-- that of the partition is held with the entry of the install
latest-same : (desc : DescOf) (journal : List Entry) (key : Key) (at : ℕ) (old new : KeptListOf)
    (other : Key) → is_raw (slice_get desc.tables key.table) ≡ false
    → HoldsInstead old new (made_entry desc journal key) → is_key key other ≡ true
    → IsHeldWith (with_install_at journal key at) new
    (latest desc (with_install_at journal key at) other)
latest-same desc journal key at old new other view instead same =
    let longer : List Entry = with_install_at journal key at in
    let is : made desc journal key ≡ latest desc longer key = λ i. record {
      key = key;
      version = (IsLatest-made desc journal key at view).last i;
    } in
    subst (λ (other : Key). IsHeldWith longer new (latest desc longer other))
    (sym (is_key-same key other same))
    (subst (IsHeldWith longer new) is
    (subst (λ (held : Option ℕ). IsSomeAnd held (IsMadeBy longer (made desc journal key)))
    (sym (entry_in-made old new (made_entry desc journal key) instead))
    (MayBeHeld-made desc journal key at view).made))

-- the number of the newest version is that of the latest one
newest_in-install : (desc : DescOf) (journal : List Entry) (key : Key) (at : ℕ)
    (old new : KeptListOf) (other : Key) → is_raw (slice_get desc.tables key.table) ≡ false
    → is_raw (slice_get desc.tables other.table) ≡ false
    → HoldsLatest desc journal old → HoldsInstead old new (made_entry desc journal key)
    → newest_in new other ≡ version desc (with_install_at journal key at) other
newest_in-install desc journal key at old new other view other_view holds instead =
    instead.newest other ∙ either (is_key key other) refl
  where
    next : Entry
    next = entry.Install key at

    either : (same : Bool) → is_key key other ≡ same
        → (if same then version desc journal key + 1 else newest_in old other)
        ≡ version desc (with_entry journal next) other
    either true same =
        sym (ap (version desc (with_entry journal next)) (is_key-same key other same)
        ∙ version-Install desc journal next key view (is_key-itself key))
    either false apart =
        holds.newest other other_view
        ∙ sym (version-push desc journal next other other_view (is_key-swap key other apart))

-- the latest version of each partition is held
latest-each : (desc : DescOf) (journal : List Entry) (key : Key) (at : ℕ) (old new : KeptListOf)
    (other : Key) (same : Bool) → is_raw (slice_get desc.tables key.table) ≡ false
    → is_raw (slice_get desc.tables other.table) ≡ false → HoldsLatest desc journal old
    → HoldsInstead old new (made_entry desc journal key) → is_key key other ≡ same
    → 0 < version desc (with_install_at journal key at) other
    → IsHeldWith (with_install_at journal key at) new
    (latest desc (with_install_at journal key at) other)
latest-each desc journal key at old new other true view other_view holds instead is some =
    latest-same desc journal key at old new other view instead is
latest-each desc journal key at old new other false view other_view holds instead is some =
    latest-other desc journal key at old new other other_view holds instead is some

-- and what is held is a latest version
IsLatest-each : (desc : DescOf) (journal : List Entry) (key : Key) (at : ℕ) (old new : KeptListOf)
    (read : Input) (same : Bool) → is_raw (slice_get desc.tables key.table) ≡ false
    → HoldsLatest desc journal old → HoldsInstead old new (made_entry desc journal key)
    → is_key key read.key ≡ same → IsSome (entry_in new read)
    → IsLatest desc (with_install_at journal key at) read
IsLatest-each desc journal key at old new read true view holds instead is there =
    subst (IsLatest desc (with_install_at journal key at))
    (sym (is_made-held desc journal key old new read holds instead there is))
    (IsLatest-made desc journal key at view)
IsLatest-each desc journal key at old new read false view holds instead is there =
    IsLatest-push desc journal (entry.Install key at) read (is_key-swap key read.key is)
    (holds.others read (subst (λ (held : Option ℕ). IsSome held)
    (entry_in-other old new (made_entry desc journal key) read instead is) there))

-- after an install just the latest versions are held, if the version before it is so no longer
pub HoldsLatest-install : (desc : DescOf) (journal : List Entry) (key : Key) (at : ℕ)
    (old new : KeptListOf) → is_raw (slice_get desc.tables key.table) ≡ false
    → HoldsLatest desc journal old → HoldsInstead old new (made_entry desc journal key)
    → HoldsLatest desc (with_install_at journal key at) new
HoldsLatest-install desc journal key at old new view holds instead = record {
  latest = λ other other_view some. latest-each desc journal key at old new other
      (is_key key other) view other_view holds instead refl some;
  others = λ read there. IsLatest-each desc journal key at old new read (is_key key read.key) view
      holds instead refl there;
  newest = λ other other_view.
      newest_in-install desc journal key at old new other view other_view holds instead;
}

-- the number of the version that an install makes, as the books tell it before and after
pub next_number : (desc : DescOf) (journal : List Entry) (key : Key) (at told newest : ℕ)
    → is_raw (slice_get desc.tables key.table) ≡ false
    → told ≡ version desc (with_install_at journal key at) key
    → newest ≡ version desc journal key → told ≡ newest + 1
next_number desc journal key at told newest view after before =
    omega (
      arith,
      after,
      before,
      version-Install desc journal (entry.Install key at) key view (is_key-itself key),
    )

-- what was held in place of the version before, after room was made, is the version that the install
-- makes
pub HoldsInstead-made : (desc : DescOf) (journal : List Entry) (key : Key) (at : ℕ)
    (old mid new : KeptListOf) (number place : ℕ) → is_raw (slice_get desc.tables key.table) ≡ false
    → SameKept old mid → number ≡ version desc (with_install_at journal key at) key
    → place ≡ length journal + 1
    → HoldsInstead mid new (record { key = key; version = number; entry = place })
    → HoldsInstead old new (made_entry desc journal key)
HoldsInstead-made desc journal key at old mid new number place view same told last instead =
    let next : number ≡ version desc journal key + 1 =
    told ∙ version-Install desc journal (entry.Install key at) key view (is_key-itself key) in
    HoldsInstead-same old mid new (made_entry desc journal key) same
    (subst (HoldsInstead mid new) (λ i. record { key = key; version = next i; entry = last i })
    instead)
