-- What of an image counts: the files that are needed (`only_needed_files_count`), and of the
-- catalogue its bodies (`only_bodies_count`).
use Rattle.std.proofs.Common.{◌≡◌, ◌≢◌, ℕ, suc, List, [], Some, sym, subst, inl, inr, arith, refl}
use Rattle.std.specs.Prelude.{IsSome, IsSomeAnd, Option, slice_get, unwrap_or}
use Rattle.depot_disk.specs.Image.{Image, SameElsewhere}
use Rattle.catalog_journal.specs.Catalog.{CATALOG_FILE, IsCatalog, MARK_FILE}
use Rattle.catalog_journal.specs.Moments.{HasBodies}
use Rattle.row_codec.specs.Spelling.{delivery_bytes, rows_bytes}
use Rattle.version_store.specs.Files.{Begins, HoldsFront}
use Rattle.view_meaning.specs.declared.journal.Entry.{Entry}
use Rattle.view_meaning.specs.declared.journal.Entry.TheVariants as entry
use Rattle.view_meaning.specs.Contents.{latest_content}
use Rattle.depot_recovery.specs.Depots.{DepotOf, bodies_of}
use Rattle.depot_recovery.specs.Growth.{OnlyBodiesCount, OnlyNeededFilesCount}
use Rattle.depot_recovery.specs.Images.{IsNeeded, IsSoundAs, IsStored, NeedsFile}
use Rattle.depot_recovery.specs.Sweeping.{SameIfNeeded}

-- a file that is as it was begins as it did
pub HoldsFront-same : (file : ℕ) (bytes : List ℕ) (old new : Image) → new file ≡ old file
    → HoldsFront file bytes old → HoldsFront file bytes new
HoldsFront-same file bytes old new same =
    subst (λ (found : Option (List ℕ)). IsSomeAnd found (λ whole. Begins whole bytes)) (sym same)

-- a catalogue that is as it was has the same bodies
HasBodies-same : (bodies : List (List ℕ)) (old new : Image) → new CATALOG_FILE ≡ old CATALOG_FILE
    → HasBodies bodies old → HasBodies bodies new
HasBodies-same bodies old new same =
    subst (λ (found : Option (List ℕ)). IsCatalog (unwrap_or found []) bodies) (sym same)

-- the content of an entry is stored still
IsStored-same : (lengths : List ℕ) (old new : Image) (place : ℕ) (bytes : List ℕ)
    → new (suc place) ≡ old (suc place) → IsStored lengths old place bytes
    → IsStored lengths new place bytes
IsStored-same lengths old new place bytes same stored = record {
  stated = stored.stated;
  file = HoldsFront-same (suc place) bytes old new same stored.file;
}

-- the file of an entry that is there is needed, if the entry needs it
IsNeeded-entry : (journal : List Entry) (place : ℕ) (found : Entry)
    → slice_get journal place ≡ Some found → NeedsFile journal (suc place) found
    → IsNeeded journal (suc place)
IsNeeded-entry journal place found there needs =
    inr (inr (
      place,
      refl,
      subst (λ (found : Option Entry). IsSomeAnd found (NeedsFile journal (suc place))) (sym there)
          needs,
    ))

-- an image holds its depot still if it has the mark file, a catalogue of the same bodies, and each
-- file of an entry that is needed as it was
IsSoundAs-entries : (depot : DepotOf) (old new : Image) → IsSome (new MARK_FILE)
    → HasBodies (bodies_of depot) new
    → ((place : ℕ) → IsNeeded depot.entries (suc place) → new (suc place) ≡ old (suc place))
    → IsSoundAs depot old → IsSoundAs depot new
IsSoundAs-entries depot old new mark catalog same sound = record {
  made = sound.made;
  mark = mark;
  catalog = catalog;
  loads = λ place delivery there.
      IsStored-same depot.lengths old new place (delivery_bytes delivery)
      (same place (IsNeeded-entry depot.entries place (entry.Load delivery) there tt))
      (sound.loads place delivery there);
  latest = λ place key at there last.
      let has = sound.latest place key at there last in
      record {
        typed = has.typed;
        stored = IsStored-same depot.lengths old new place
            (rows_bytes (latest_content depot.desc depot.entries key))
            (same place (IsNeeded-entry depot.entries place (entry.Install key at) there last))
            has.stored;
      };
}

-- the mark file is no other one
pub MARK_FILE-apart : MARK_FILE ≢ CATALOG_FILE
MARK_FILE-apart same = omega (arith, same)

pub only_bodies_count : OnlyBodiesCount
only_bodies_count depot old new catalog elsewhere sound =
    IsSoundAs-entries depot old new
    (subst (λ (found : Option (List ℕ)). IsSome found) (sym (elsewhere MARK_FILE MARK_FILE-apart))
    sound.mark)
    catalog (λ place _. elsewhere (suc place) (λ same. omega (arith, same))) sound

-- so it is if each file that is needed is as it was
IsSoundAs-same : (depot : DepotOf) (old new : Image) → SameIfNeeded depot.entries old new
    → IsSoundAs depot old → IsSoundAs depot new
IsSoundAs-same depot old new same sound =
    IsSoundAs-entries depot old new
    (subst (λ (found : Option (List ℕ)). IsSome found) (sym (same MARK_FILE (inr (inl refl))))
    sound.mark)
    (HasBodies-same (bodies_of depot) old new (same CATALOG_FILE (inl refl)) sound.catalog)
    (λ place. same (suc place)) sound

-- none is the file that changed if that is not needed
SameIfNeeded-other : (journal : List Entry) (file : ℕ) (old new : Image)
    → (IsNeeded journal file → ⊥) → SameElsewhere file old new → SameIfNeeded journal old new
SameIfNeeded-other journal file old new free elsewhere other needed =
    elsewhere other (λ same. free (subst (IsNeeded journal) same needed))

pub only_needed_files_count : OnlyNeededFilesCount
only_needed_files_count = record {
  needed = IsSoundAs-same;
  other = λ depot file old new free elsewhere.
      IsSoundAs-same depot old new
      (SameIfNeeded-other depot.entries file old new free elsewhere);
}
