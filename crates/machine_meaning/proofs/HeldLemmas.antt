-- What is held is right, at the start and after each event.
use Rattle.std.proofs.Common.{List, Some, ap, arith, inl, inr, length, refl, subst, sym, true, ℕ}
use Rattle.std.proofs.Common.{◌+◌, ◌<◌, ◌∙◌, ◌≡◌, ◌≤◌}
use Rattle.std.specs.Prelude.{Bool, IfSome, IsSome, IsSomeAnd, None, Option, false, if◌then◌else◌}
use Rattle.std.specs.Prelude.{slice_get, ◌==◌}
use Rattle.std.proofs.lemmas.Bool.{and_from, both_ways, cases_Bool, eq-eqb, false_from_ne_true}
use Rattle.std.proofs.lemmas.Option.{IfSome_then}
use Rattle.desc_types.specs.declared.table.Key.{Key}
use Rattle.desc_types.specs.Deliveries.{DeliveryOf}
use Rattle.desc_types.specs.Descriptions.{DescOf}
use Rattle.view_meaning.specs.declared.journal.Entry.{Entry}
use Rattle.view_meaning.specs.Partitions.{is_key}
use Rattle.view_meaning.specs.Versions.{is_raw, version}
use Rattle.view_meaning.proofs.AmongLemmas.{is_key-itself, is_key-same}
use Rattle.query_pin.specs.declared.input.Input.{Input}
use Rattle.query_pin.specs.Inputs.{is_version}
use Rattle.query_pin.specs.Kept.{KeptListOf, entry_in, newest_in}
use Rattle.query_pin.specs.Pins.{PinOf}
use Rattle.query_pin.proofs.OrderLemmas.{is_version-same}
use Rattle.machine_meaning.specs.declared.claim.Claim.{Claim}
use Rattle.machine_meaning.specs.Events.{HoldsAlso, HoldsBut, HoldsLatest, IsLatest, found, made}
use Rattle.machine_meaning.specs.Events.{with_entry}
use Rattle.machine_meaning.specs.States.{HoldsRight, IsMadeBy, MayBeHeld, State, latest}
use Rattle.machine_meaning.proofs.EntryLemmas.{MayBeHeld-made, MayBeHeld-push, version-Install}
use Rattle.machine_meaning.proofs.EntryLemmas.{version-push}
use Rattle.view_meaning.specs.declared.journal.Entry.TheVariants as entry

-- a version is the same as itself
is_version-itself : (read : Input) → is_version read read ≡ true
is_version-itself read =
    and_from (is_key read.key read.key) (read.version == read.version) (is_key-itself read.key)
    (eq-eqb read.version read.version refl)

-- keys that the test tells apart one way it tells apart the other way
pub is_key-swap : (key other : Key) → is_key key other ≡ false → is_key other key ≡ false
is_key-swap key other apart =
    false_from_ne_true (is_key other key) (λ same.
    both_ways (is_key key other) apart
    (subst (λ (other : Key). is_key key other ≡ true) (is_key-same other key same)
    (is_key-itself key)))

-- what is there and passes a test is there
IsSome-and : {X : Type 0} (P : X → Type 0) (found : Option X) → IsSomeAnd found P → IsSome found
IsSome-and P None is = absurd is
IsSome-and P (Some x) is = refl

-- what is held is right whatever is claimed or pinned
pub HoldsRight-same : (desc : DescOf) (old : State) (claims : List Claim)
    (pins : List (ℕ × PinOf)) → HoldsRight desc old
    → HoldsRight desc (record old { claims = claims; pins = pins })
HoldsRight-same desc old claims pins right =
    record { made = right.made; current = right.current; newest = right.newest }

-- only what an install made is held
abbrev AreMade : DescOf → List Entry → KeptListOf → Type 0
AreMade desc journal held =
    (read : Input) → IfSome (entry_in held read) (MayBeHeld desc journal read)

-- a latest version that is held was made by its entry
made-latest : (desc : DescOf) (journal : List Entry) (held : KeptListOf) (read : Input) (entry : ℕ)
    → HoldsLatest desc journal held → entry_in held read ≡ Some entry
    → MayBeHeld desc journal read entry
made-latest desc journal held read entry holds there =
    let last : IsLatest desc journal read =
    holds.others read (subst (λ (found : Option ℕ). IsSome found) (sym there) refl) in
    let same : latest desc journal read.key ≡ read =
    λ i. record { key = read.key; version = sym last.last i } in
    let made : IsSomeAnd (entry_in held read) (IsMadeBy journal read) =
    subst (λ (read : Input). IsSomeAnd (entry_in held read) (IsMadeBy journal read)) same
    (holds.latest read.key last.view (omega (arith, last.some, last.last))) in
    record {
      view = last.view;
      made = subst (λ (found : Option ℕ). IsSomeAnd found (IsMadeBy journal read)) there made;
    }

-- so only what an install made is held, if just the latest versions are
AreMade-latest : (desc : DescOf) (journal : List Entry) (held : KeptListOf)
    → HoldsLatest desc journal held → AreMade desc journal held
AreMade-latest desc journal held holds read = at_entry (entry_in held read) refl
  where
    at_entry : (found : Option ℕ) → entry_in held read ≡ found
        → IfSome found (MayBeHeld desc journal read)
    at_entry None there = tt
    at_entry (Some entry) there = made-latest desc journal held read entry holds there

-- what is held is right, if just the latest versions are
pub HoldsRight-latest : (desc : DescOf) (journal : List Entry) (held : KeptListOf)
    → HoldsLatest desc journal held → HoldsRight desc (found journal held)
HoldsRight-latest desc journal held holds = record {
  made = AreMade-latest desc journal held holds;
  current = λ key. record {
    known = omega arith;
    there = λ view some. IsSome-and (IsMadeBy journal (latest desc journal key))
        (entry_in held (latest desc journal key)) (holds.latest key view some);
  };
  newest = holds.newest;
}

-- the latest version is held after an entry, if the version is the same and was held before
latest-held : (desc : DescOf) (journal later : List Entry) (held : KeptListOf) (key : Key)
    → version desc later key ≡ version desc journal key
    → (1 ≤ version desc journal key → IsSome (entry_in held (latest desc journal key)))
    → 1 ≤ version desc later key → IsSome (entry_in held (latest desc later key))
latest-held desc journal later held key same there some =
    subst (λ (number : ℕ). IsSome (entry_in held (record { key = key; version = number })))
    (sym same) (there (omega (arith, some, same)))

-- a load leaves what is held right
pub HoldsRight-load : (desc : DescOf) (old : State) (delivery : DeliveryOf)
    → HoldsRight desc old
    → HoldsRight desc (record old { journal = with_entry old.journal (entry.Load delivery) })
HoldsRight-load desc old delivery right =
    let next = entry.Load delivery in
    record {
      made = λ read. IfSome_then (entry_in old.held read) (right.made read)
          (λ place may. MayBeHeld-push desc old.journal next read place may);
      current = λ key. record {
        known = omega arith;
        there = λ view. latest-held desc old.journal (with_entry old.journal next) old.held key
            (version-push desc old.journal next key view refl) ((right.current key).there view);
      };
      newest = λ key view.
          right.newest key view ∙ sym (version-push desc old.journal next key view refl);
    }

-- one version more is held
module _ (old new : KeptListOf) (more : Input) (entry : ℕ)
    (also : HoldsAlso old new more entry) where
  -- what was held still is
  pub IsSome-also : (read : Input) → IsSome (entry_in old read) → IsSome (entry_in new read)
  IsSome-also read there =
      subst (λ (found : Option ℕ). IsSome found) (sym (also.entries read))
      (either (is_version more read))
    where
      either : (same : Bool) → IsSome (if same then Some entry else entry_in old read)
      either true = refl
      either false = there

  -- the one more is held
  IsSome-more : IsSome (entry_in new more)
  IsSome-more =
      subst (λ (found : Option ℕ). IsSome found)
      (sym (also.entries more
      ∙ ap (λ (same : Bool). if same then Some entry else entry_in old more)
      (is_version-itself more)))
      refl

-- a view's partition is installed after a journal, and the version that this makes is held
module _ (desc : DescOf) (journal : List Entry) (key : Key) (at : ℕ) (old new : KeptListOf)
    (view : is_raw (slice_get desc.tables key.table) ≡ false)
    (also : HoldsAlso old new (made desc journal key) (length journal + 1)) where
  -- the journal with the install
  abbrev longer : List Entry
  longer = with_entry journal (entry.Install key at)

  -- only what an install made is held
  AreMade-also : AreMade desc journal old → AreMade desc longer new
  AreMade-also are read =
      subst (λ (found : Option ℕ). IfSome found (MayBeHeld desc longer read))
      (sym (also.entries read)) (either (is_version (made desc journal key) read) refl)
    where
      either : (same : Bool) → is_version (made desc journal key) read ≡ same
          → IfSome (if same then Some (length journal + 1) else entry_in old read)
          (MayBeHeld desc longer read)
      either true same =
          subst (λ (read : Input). MayBeHeld desc longer read (length journal + 1))
          (sym (is_version-same (made desc journal key) read same))
          (MayBeHeld-made desc journal key at view)
      either false apart =
          IfSome_then (entry_in old read) (are read)
          (λ place may. MayBeHeld-push desc journal (entry.Install key at) read place may)

  -- the version of this partition is one more
  version-same_key : (other : Key) → is_key key other ≡ true
      → version desc longer other ≡ version desc journal key + 1
  version-same_key other same =
      ap (version desc longer) (is_key-same key other same)
      ∙ version-Install desc journal (entry.Install key at) key view (is_key-itself key)

  -- that of each other one of a view is what it was
  version-other_key : (other : Key) → is_raw (slice_get desc.tables other.table) ≡ false
      → is_key key other ≡ false → version desc longer other ≡ version desc journal other
  version-other_key other other_view apart =
      version-push desc journal (entry.Install key at) other other_view
      (is_key-swap key other apart)

  -- the latest version of each view's partition is held
  latest-also : (other : Key) → is_raw (slice_get desc.tables other.table) ≡ false
      → (1 ≤ version desc journal other → IsSome (entry_in old (latest desc journal other)))
      → 1 ≤ version desc longer other → IsSome (entry_in new (latest desc longer other))
  latest-also other other_view there some = elim (cases_Bool (is_key key other)) [
    | inl same ↦ subst (λ (read : Input). IsSome (entry_in new read))
        (λ i. record {
          key = sym (is_key-same key other same) i;
          version = sym (version-same_key other same) i;
        })
        (IsSome-more old new (made desc journal key) (length journal + 1) also)
    | inr apart ↦ IsSome-also old new (made desc journal key) (length journal + 1) also
        (latest desc longer other)
        (latest-held desc journal longer old other (version-other_key other other_view apart) there
        some)
  ]

  -- it is the newest one
  newest-also : (other : Key) → is_raw (slice_get desc.tables other.table) ≡ false
      → newest_in old other ≡ version desc journal other
      → newest_in new other ≡ version desc longer other
  newest-also other other_view was = elim (cases_Bool (is_key key other)) [
    | inl same ↦
        also.newest other
        ∙ ap (λ (same : Bool). if same then version desc journal key + 1 else newest_in old other)
        same
        ∙ sym (version-same_key other same)
    | inr apart ↦
        also.newest other
        ∙ ap (λ (same : Bool). if same then version desc journal key + 1 else newest_in old other)
        apart
        ∙ was
        ∙ sym (version-other_key other other_view apart)
  ]

-- an install leaves what is held right
pub HoldsRight-install : (desc : DescOf) (old : State) (key : Key) (at : ℕ) (held : KeptListOf)
    → is_raw (slice_get desc.tables key.table) ≡ false → HoldsRight desc old
    → HoldsAlso old.held held (made desc old.journal key) (length old.journal + 1)
    → HoldsRight desc (record old {
      journal = with_entry old.journal (entry.Install key at);
      held = held;
    })
HoldsRight-install desc old key at held view right also = record {
  made = AreMade-also desc old.journal key at old.held held view also right.made;
  current = λ other. record {
    known = omega arith;
    there = λ other_view. latest-also desc old.journal key at old.held held view also other
        other_view ((right.current other).there other_view);
  };
  newest = λ other other_view. newest-also desc old.journal key at old.held held view also other
      other_view (right.newest other other_view);
}

-- one version is held no more
module _ (old new : KeptListOf) (dead : Input) (but : HoldsBut old new dead) where
  -- each other one that was held still is
  pub IsSome-but : (read : Input) → is_version dead read ≡ false → IsSome (entry_in old read)
      → IsSome (entry_in new read)
  IsSome-but read apart there =
      subst (λ (found : Option ℕ). IsSome found)
      (sym (but.entries read
      ∙ ap (λ (same : Bool). if same then None else entry_in old read) apart))
      there

  -- only what an install made is held
  AreMade-but : (desc : DescOf) (journal : List Entry) → AreMade desc journal old
      → AreMade desc journal new
  AreMade-but desc journal are read =
      subst (λ (found : Option ℕ). IfSome found (MayBeHeld desc journal read))
      (sym (but.entries read)) (either (is_version dead read))
    where
      either : (same : Bool)
          → IfSome (if same then None else entry_in old read) (MayBeHeld desc journal read)
      either true = tt
      either false = are read

-- a version that was replaced is not the latest one
is_version-replaced : (desc : DescOf) (journal : List Entry) (dead : Input) (key : Key)
    → dead.version < version desc journal dead.key
    → is_version dead (latest desc journal key) ≡ false
is_version-replaced desc journal dead key replaced =
    false_from_ne_true (is_version dead (latest desc journal key)) (λ same.
    let is : latest desc journal key ≡ dead = is_version-same dead (latest desc journal key) same in
    omega (
      arith,
      replaced,
      ap (λ (read : Input). read.version) is,
      ap (λ (read : Input). version desc journal read.key) is,
    ))

-- dropping a version that was replaced leaves what is held right
pub HoldsRight-reclaim : (desc : DescOf) (old : State) (dead : Input) (held : KeptListOf)
    → dead.version < version desc old.journal dead.key → HoldsRight desc old
    → HoldsBut old.held held dead → HoldsRight desc (record old { held = held })
HoldsRight-reclaim desc old dead held replaced right but = record {
  made = AreMade-but old.held held dead but desc old.journal right.made;
  current = λ key. record {
    known = omega arith;
    there = λ view some. IsSome-but old.held held dead but (latest desc old.journal key)
        (is_version-replaced desc old.journal dead key replaced)
        ((right.current key).there view some);
  };
  newest = λ key view. but.newest key ∙ right.newest key view;
}
