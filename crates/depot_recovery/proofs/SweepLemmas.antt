-- Runs that take away files that nothing needs (`Sweeps`), and which files are needed.
use Rattle.std.proofs.Common.{◌≡◌, ◌∙◌, ◌+◌, ◌<◌, ◌≤◌, ◌-◌, ℕ, List, ap, arith, length, refl, subst, sym}
use Rattle.std.proofs.Common.{◌^◌, get_or, inl, inr, true, false}
use Rattle.std.specs.Prelude.{◌↔◌, ◌==◌, ◌≢◌, Bool, IfSome, IsSome, IsSomeAnd, IsTrue, None, Option, Some}
use Rattle.std.specs.Prelude.{Result, if◌then◌else◌, nat_le, option_and_then, slice_get, ◌⊎◌}
use Rattle.std.proofs.lemmas.Bool.{cases_lt, false≢true, le-leb, leb-true}
use Rattle.std.proofs.lemmas.Option.{none-some, slice_get_cases, slice_get_within}
use Rattle.desc_types.specs.declared.table.Key.{Key}
use Rattle.depot_disk.specs.Image.{Image, SameElsewhere}
use Rattle.depot_disk.specs.State.{Becomes, DiskState, Elapses, IsDiskState, IsReading}
use Rattle.depot_disk.specs.State.{Stepped, Within}
use Rattle.depot_disk.specs.Torn.{IsFirstFrom, MayLose}
use Rattle.depot_disk.proofs.RunLemmas.{LeavesOnly-both, LeavesOnly-call, LeavesOnly-wider}
use Rattle.depot_disk.proofs.TornLemmas.{with_file-elsewhere}
use Rattle.catalog_journal.proofs.ThroughLemmas.{LeavesOnly-now}
use Rattle.view_meaning.specs.declared.journal.Entry.{Entry}
use Rattle.view_meaning.specs.declared.journal.Entry.TheVariants as entry
use Rattle.catalog_journal.specs.Catalog.{CATALOG_FILE, MARK_FILE}
use Rattle.claim_core.specs.JournalView.{installed_after, key_installed}
use Rattle.depot_recovery.specs.Depots.{is_latest}
use Rattle.depot_recovery.specs.Images.{IsNeeded, NeedsFile}
use Rattle.depot_recovery.specs.Sweeping.{IsSwept, IsSweptBefore, Loses, SameIfNeeded, Sweeps}

-- what a disk holds goes by a wider step too
Becomes-wider : (step wider : Image → Image → Type 0) (old new : Option Image)
    → ((before after : Image) → step before after → wider before after)
    → Becomes step old new → Becomes wider old new
Becomes-wider step wider (Some old) (Some new) wide is = wide old new is
Becomes-wider step wider None None wide is = tt
Becomes-wider step wider (Some old) None wide is = absurd is
Becomes-wider step wider None (Some new) wide is = absurd is

-- a file that is still there is as it was, if it was as it was before that
IsSome-same : (first second : Option (List ℕ)) → first ≡ second → IsSome first → IsSome second
IsSome-same first second same there =
    subst (λ (content : Option (List ℕ)). IsSome content) same there

-- files that are lost, and then more
Loses-both : (journal : List Entry) (old mid new : Image) → Loses journal old mid
    → Loses journal mid new → Loses journal old new
Loses-both journal old mid new first second = record {
  needed = λ file needed. second.needed file needed ∙ first.needed file needed;
  left = λ file there. second.left file there
      ∙ first.left file (IsSome-same (new file) (mid file) (second.left file there) there);
}

-- none is lost
Loses-none : (journal : List Entry) (image : Image) → Loses journal image image
Loses-none journal image = record {
  needed = λ file needed. refl;
  left = λ file there. refl;
}

-- a file that is not needed may be lost
Loses-file : (journal : List Entry) (file : ℕ) (old new : Image) → (IsNeeded journal file → ⊥)
    → MayLose file old new → Loses journal old new
Loses-file journal file old new free (inl same) = record {
  needed = λ other needed. ap (λ (image : Image). image other) same;
  left = λ other there. ap (λ (image : Image). image other) same;
}
Loses-file journal file old new free (inr gone) = record {
  needed = λ other needed. ap (λ (image : Image). image other) gone
      ∙ with_file-elsewhere old file None other
      (λ same. free (subst (IsNeeded journal) same needed));
  left = λ other there.
      rest other (other == file) there (ap (λ (image : Image). image other) gone);
}
  where
    rest : (other : ℕ) (same : Bool) → IsSome (new other)
        → new other ≡ (if same then None else old other) → new other ≡ old other
    rest other true there is = absurd (false≢true (IsSome-same (new other) None is there))
    rest other false there is = is

-- what a disk holds after two runs
Becomes-both : (journal : List Entry) (old mid new : Option Image)
    → Becomes (Loses journal) old mid → Becomes (Loses journal) mid new
    → Becomes (Loses journal) old new
Becomes-both journal (Some old) (Some mid) (Some new) first second =
    Loses-both journal old mid new first second
Becomes-both journal (Some old) (Some mid) None first second = absurd second
Becomes-both journal (Some old) None new first second = absurd first
Becomes-both journal None (Some mid) new first second = absurd first
Becomes-both journal None None (Some new) first second = absurd second
Becomes-both journal None None None first second = tt

-- what a disk holds if nothing is lost
Becomes-same : (journal : List Entry) (old new : Option Image) → new ≡ old
    → Becomes (Loses journal) old new
Becomes-same journal old new same =
    subst (λ (held : Option Image). Becomes (Loses journal) old held) (sym same) (at old)
  where
    at : (held : Option Image) → Becomes (Loses journal) held held
    at None = tt
    at (Some image) = Loses-none journal image

-- images that a stop left before, as far as files are needed
Stepped-both : (journal : List Entry) (old mid : Image → Type 0)
    → Within mid (Stepped (SameIfNeeded journal) old)
    → Within (Stepped (SameIfNeeded journal) mid) (Stepped (SameIfNeeded journal) old)
Stepped-both journal old mid left image (from, is, same) =
    let earlier = left from is in (
      earlier.0,
      earlier.1,
      λ file needed. same file needed ∙ earlier.2 file needed,
    )

-- each image that a stop left is one
Within-Stepped : (journal : List Entry) (images : Image → Type 0)
    → Within images (Stepped (SameIfNeeded journal) images)
Within-Stepped journal images image is = (image, is, λ file needed. refl)

-- a call that only reads takes nothing away
pub Sweeps-reading : {T E : Type 0} (journal : List Entry) (old new : DiskState)
    (result : Result T E) → IsDiskState old → IsReading old new result → Sweeps journal old new
Sweeps-reading journal old new result told reading = record {
  held = Becomes-same journal old.holds new.holds reading.same.held;
  any_moment = LeavesOnly-call old new (Stepped (SameIfNeeded journal) old.may_leave) told
      reading.call.time (Within-Stepped journal old.may_leave)
      (λ image left. Within-Stepped journal old.may_leave image (reading.same.no_more image left));
}

-- a removal of a file that is not needed
pub Sweeps-file : (journal : List Entry) (file : ℕ) (old new : DiskState) → IsDiskState old
    → (IsNeeded journal file → ⊥) → Elapses old new
    → Becomes (MayLose file) old.holds new.holds
    → Within new.may_leave (Stepped (SameElsewhere file) old.may_leave) → Sweeps journal old new
Sweeps-file journal file old new told free time part left = record {
  held = Becomes-wider (MayLose file) (Loses journal) old.holds new.holds
      (λ before after. Loses-file journal file before after free) part;
  any_moment = LeavesOnly-call old new (Stepped (SameIfNeeded journal) old.may_leave) told time
      (Within-Stepped journal old.may_leave)
      (λ image is. elsewhere image (left image is));
}
  where
    elsewhere : (image : Image) → Stepped (SameElsewhere file) old.may_leave image
        → Stepped (SameIfNeeded journal) old.may_leave image
    elsewhere image (from, is, same) = (
      from,
      is,
      λ other needed. same other (λ apart. free (subst (IsNeeded journal) apart needed)),
    )

-- two runs, one after the other
pub Sweeps-both : (journal : List Entry) (old mid new : DiskState) → IsDiskState mid
    → Sweeps journal old mid → Sweeps journal mid new → Sweeps journal old new
Sweeps-both journal old mid new told first second = record {
  held = Becomes-both journal old.holds mid.holds new.holds first.held second.held;
  any_moment = LeavesOnly-both old mid new (Stepped (SameIfNeeded journal) old.may_leave)
      first.any_moment
      (LeavesOnly-wider mid new (Stepped (SameIfNeeded journal) mid.may_leave)
      (Stepped (SameIfNeeded journal) old.may_leave)
      (Stepped-both journal old.may_leave mid.may_leave
      (LeavesOnly-now old mid (Stepped (SameIfNeeded journal) old.may_leave) told first.any_moment))
      second.any_moment);
}

-- no file is at a number where none is
IsSome-none : (content : Option (List ℕ)) → content ≡ None → IsSome content → ⊥
IsSome-none content none there = false≢true (IsSome-same content None none there)

-- after the first file from a number on is swept, all up to it are
IsSweptBefore-next : (journal : List Entry) (from file : ℕ) (old new : Image)
    → IsSweptBefore journal from old → IsFirstFrom old from (Some file) → Loses journal old new
    → (IsSome (new file) → IsNeeded journal file) → IsSweptBefore journal (file + 1) new
IsSweptBefore-next journal from file old new before first loses here other below there =
    elim (cases_lt other from) [
      | inl early ↦ before other early was
      | inr late ↦ elim (cases_lt other file) [
        | inl between ↦ absurd (IsSome-none (old other) (first.2 other late between) was)
        | inr past ↦ at (omega (arith, below, past))
      ]
    ]
  where
    was : IsSome (old other)
    was = IsSome-same (new other) (old other) (loses.left other there) there

    at : file ≡ other → IsNeeded journal other
    at same = subst (IsNeeded journal) same
        (here (subst (λ (number : ℕ). IsSome (new number)) (sym same) there))

-- the same of what a disk holds
pub IfSome-next : (journal : List Entry) (from file : ℕ) (found : Option ℕ)
    (old mid new : Option Image) → found ≡ Some file → mid ≡ old
    → IfSome old (IsSweptBefore journal from) → IfSome old (λ image. IsFirstFrom image from found)
    → Becomes (Loses journal) mid new
    → IfSome new (λ image. IsSome (image file) → IsNeeded journal file)
    → IfSome new (IsSweptBefore journal (file + 1))
IfSome-next journal from file found old mid new is same before first loses here =
    at old new before
    (subst (λ (found : Option ℕ). IfSome old (λ image. IsFirstFrom image from found)) is first)
    (subst (λ (held : Option Image). Becomes (Loses journal) held new) same loses) here
  where
    at : (held now : Option Image) → IfSome held (IsSweptBefore journal from)
        → IfSome held (λ image. IsFirstFrom image from (Some file)) → Becomes (Loses journal) held now
        → IfSome now (λ image. IsSome (image file) → IsNeeded journal file)
        → IfSome now (IsSweptBefore journal (file + 1))
    at held None before first loses here = tt
    at None (Some now) before first loses here = absurd loses
    at (Some held) (Some now) before first loses here =
        IsSweptBefore-next journal from file held now before first loses here

-- a file that is neither of the catalogue's two is needed exactly if the file of the entry with its
-- number is
IsNeeded-entry : (journal : List Entry) (file : ℕ) → file ≢ CATALOG_FILE → file ≢ MARK_FILE
    → IsSomeAnd (slice_get journal (file - 1)) (NeedsFile journal file) ↔ IsNeeded journal file
IsNeeded-entry journal file first second = (to, from)
  where
    Needs : ℕ → Type 0
    Needs place = IsSomeAnd (slice_get journal place) (NeedsFile journal file)

    to : Needs (file - 1) → IsNeeded journal file
    to needs = inr (inr (file - 1, omega (arith, first), needs))

    from : IsNeeded journal file → Needs (file - 1)
    from (inl is) = absurd (first is)
    from (inr (inl is)) = absurd (second is)
    from (inr (inr (place, is, needs))) =
        let same : place ≡ file - 1 = omega (arith, is) in subst Needs same needs

-- an install is told of by the partition that it computed
installed-some : (found : Option Entry) (key : Key) → option_and_then key_installed found ≡ Some key
    → (at : ℕ) × (found ≡ Some (entry.Install key at))
installed-some None key is = absurd cc
installed-some (Some (entry.Load delivery)) key is = absurd cc
installed-some (Some (entry.Install installed at)) key is =
    let same : installed ≡ key = cc in
    (at, ap (λ (key : Key). Some (entry.Install key at)) same)

-- the file of an install is needed exactly if it is the latest one of its partition
pub is_needed-install : (journal : List Entry) (file : ℕ) (key : Key) (latest : Bool)
    → file ≢ CATALOG_FILE → file ≢ MARK_FILE → Some key ≡ installed_after journal (file - 1)
    → latest ≡ is_latest journal file key → IsTrue latest ↔ IsNeeded journal file
is_needed-install journal file key latest first second installed exact =
    let entry_is = installed-some (slice_get journal (file - 1)) key (sym installed) in
    let needed = IsNeeded-entry journal file first second in (
      λ is. needed.0 (subst (λ (found : Option Entry). IsSomeAnd found (NeedsFile journal file))
          (sym entry_is.1) (sym exact ∙ is)),
      λ needs. exact
          ∙ subst (λ (found : Option Entry). IsSomeAnd found (NeedsFile journal file)) entry_is.1
          (needed.1 needs),
    )

-- each other file is needed exactly if there is such an entry, since that is a load
pub is_needed-other : (journal : List Entry) (file len : ℕ) → file ≢ CATALOG_FILE
    → file ≢ MARK_FILE → None ≡ installed_after journal (file - 1) → len ≡ length journal
    → IsTrue (nat_le file len) ↔ IsNeeded journal file
is_needed-other journal file len first second other is =
    let needed = IsNeeded-entry journal file first second in
    let exact = each (slice_get journal (file - 1)) refl in
    (λ fits. needed.0 (exact.0 fits), λ needs. exact.1 (needed.1 needs))
  where
    each : (found : Option Entry) → slice_get journal (file - 1) ≡ found
        → IsTrue (nat_le file len) ↔ IsSomeAnd found (NeedsFile journal file)
    each None none = (
      λ fits. absurd (past (slice_get_cases journal (file - 1)).1 none (leb-true file len fits)),
      λ needs. absurd needs,
    )
      where
        past : ((x : Entry) × (file - 1 < length journal)
            × (slice_get journal (file - 1) ≡ Some x) × (get_or journal (file - 1) x ≡ x))
            ⊎ ((length journal ≤ file - 1) × (slice_get journal (file - 1) ≡ None))
            → slice_get journal (file - 1) ≡ None → file ≤ len → ⊥
        past (inl (x, within, there, _)) none fits = none-some x (sym none ∙ there)
        past (inr (after, _)) none fits = omega (arith, first, after, fits, is)
    each (Some (entry.Load delivery)) there = (
      λ fits. tt,
      λ needs. le-leb file len (omega (
        arith,
        slice_get_within journal (file - 1) (entry.Load delivery) there,
        is,
      )),
    )
    each (Some (entry.Install key at)) there =
        absurd (none-some key (other ∙ ap (option_and_then key_installed) there))

-- the file of an entry that is no install is needed
pub is_needed-load : (journal : List Entry) (file len : ℕ) → file ≢ CATALOG_FILE
    → file ≢ MARK_FILE → None ≡ installed_after journal (file - 1) → len ≡ length journal
    → file ≤ len → IsTrue true ↔ IsNeeded journal file
is_needed-load journal file len first second other is fits =
    let exact = is_needed-other journal file len first second other is in
    (λ _. exact.0 (le-leb file len fits), λ _. refl)

-- if no file is left from the last number on that is there, none is left at all
pub IfSome-last : (journal : List Entry) (file : ℕ) (found : Option ℕ) (mid new : Option Image)
    → file ≡ 2 ^ 64 - 1 → (IsNeeded journal file → file < 2 ^ 64 - 1)
    → IfSome found (λ number. number < 2 ^ 64)
    → new ≡ mid → IfSome mid (IsSweptBefore journal (file + 1))
    → IfSome mid (λ image. IsFirstFrom image file found) → IfSome new (IsSwept journal)
IfSome-last journal file found mid new is bound near same before first =
    subst (λ (held : Option Image). IfSome held (IsSwept journal)) (sym same)
    (held mid found before first near)
  where
    held : (here : Option Image) (found : Option ℕ) → IfSome here (IsSweptBefore journal (file + 1))
        → IfSome here (λ image. IsFirstFrom image file found)
        → IfSome found (λ number. number < 2 ^ 64) → IfSome here (IsSwept journal)
    held None found before first near = tt
    held (Some image) None before first near = λ other there.
        elim (cases_lt other file) [
          | inl early ↦ before other (omega arith) there
          | inr late ↦ absurd (IsSome-none (image other) (first other late) there)
        ]
    held (Some image) (Some number) before first near =
        let last : number ≡ file = omega (arith, first.0, near, is) in
        absurd (omega (
          arith,
          is,
          bound (before file (omega arith)
              (subst (λ (number : ℕ). IsSome (image number)) last first.1)),
        ))
