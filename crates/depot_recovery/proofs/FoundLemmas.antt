-- What was found in a sound image are its rows: a version that is held has its file.
use Rattle.std.proofs.Common.{◌≡◌, ◌∙◌, ℕ, zero, suc, List, None, Some, arith, ap, refl}
use Rattle.std.proofs.Common.{subst, sym}
use Rattle.std.specs.Prelude.{IfSome, IsSome, IsSomeAnd, Ok, Option, Result, length, slice_get}
use Rattle.catalog_journal.specs.declared.fault.LogFault.{LogFault}
use Rattle.catalog_journal.specs.declared.log.Log.{Log}
use Rattle.catalog_journal.specs.Answers.{Opens}
use Rattle.catalog_journal.specs.Catalog.{CATALOG_FILE, MARK_FILE}
use Rattle.catalog_journal.specs.Reading.{read_catalog}
use Rattle.claim_core.specs.Cores.{CoreOf, IsFound}
use Rattle.depot_cell.specs.declared.cell.Cell.{Cell}
use Rattle.depot_disk.specs.Image.{Image, bytes_in}
use Rattle.desc_types.specs.declared.table.Key.{Key}
use Rattle.machine_meaning.specs.States.{State, latest}
use Rattle.query_pin.specs.declared.input.Input.{Input}
use Rattle.query_pin.specs.Kept.{entry_in}
use Rattle.row_codec.specs.Laws.{AreRowsOf}
use Rattle.row_codec.specs.Spelling.{rows_bytes}
use Rattle.row_codec.proofs.CodecLemmas.{same_Ok}
use Rattle.version_store.specs.Laws.{FilesAreReadAgain}
use Rattle.version_store.specs.Shelves.{Kept, kept_in}
use Rattle.view_meaning.specs.declared.journal.Entry.TheVariants as entry
use Rattle.view_meaning.specs.Contents.{content, latest_content}
use Rattle.depot_recovery.specs.declared.found.Found.{Found}
use Rattle.depot_recovery.specs.Depots.{DepotOf, types_of}
use Rattle.depot_recovery.specs.Found.{found_in, journal_in, with_files}
use Rattle.depot_recovery.specs.Images.{IsSoundAs}
use Rattle.depot_recovery.specs.Laws.{FindsWhatIsHeld}
use Rattle.depot_recovery.specs.Recovered.{HoldsSound, IsFoundAs, IsFoundIn, KeepsContents}
use Rattle.depot_recovery.specs.Recovered.{KeepsHeld, KeepsRead, Refuses}
use Rattle.depot_recovery.proofs.LatestHeldLemmas.{IsHeldAt-held}
use Rattle.depot_recovery.proofs.ReplayLemmas.{IsFound-own}

-- what is found in an image, if the journal of its catalogue is this
found_in-files : (image : Image) (bodies : List (List ℕ)) (depot : DepotOf)
    → IsSome (image MARK_FILE) → read_catalog (bytes_in image CATALOG_FILE) ≡ Ok bodies
    → journal_in image bodies ≡ Ok depot → found_in image ≡ with_files image depot
found_in-files image bodies depot mark read journal = rw (mark, read, journal) refl

-- a fault of the files is one of the image
Refuses-files : (image : Image) (bodies : List (List ℕ)) (depot : DepotOf) (fault : LogFault)
    → IsSome (image MARK_FILE) → read_catalog (bytes_in image CATALOG_FILE) ≡ Ok bodies
    → journal_in image bodies ≡ Ok depot → Refuses (with_files image depot) fault
    → Refuses (found_in image) fault
Refuses-files image bodies depot fault mark read journal refuses =
    subst (λ (finding : Result DepotOf LogFault). Refuses finding fault)
    (sym (found_in-files image bodies depot mark read journal)) refuses

-- also if the catalogue, the journal and the files were read one after the other
pub fault-found : (old mid new : Option Image) (log : Log) (bodies : List (List ℕ))
    (depot : DepotOf) (fault : LogFault) → mid ≡ old → new ≡ mid
    → IfSome old (λ image. Opens image (Ok (log, bodies)))
    → IfSome mid (λ image. journal_in image bodies ≡ Ok depot)
    → IfSome new (λ image. Refuses (with_files image depot) fault)
    → IfSome old (λ image. Refuses (found_in image) fault)
fault-found None mid new log bodies depot fault same again opens journal refuses = tt
fault-found (Some image) mid new log bodies depot fault same again opens journal refuses =
    Refuses-files image bodies depot fault opens.0 opens.1
    (subst (λ (held : Option Image). IfSome held (λ image. journal_in image bodies ≡ Ok depot))
    same journal)
    (subst (λ (held : Option Image). IfSome held (λ image.
    Refuses (with_files image depot) fault)) (again ∙ same) refuses)

-- the rows that are kept under an entry are the content of its version, if its file has that
kept-content : (kept : Kept) (number : ℕ) (wanted : List (List Cell))
    (Right : List (List Cell) → Type 0) (found : Option (List (List Cell)))
    → kept number ≡ found → IsSomeAnd found Right
    → ((rows : List (List Cell)) → kept number ≡ Some rows → rows ≡ wanted)
    → kept number ≡ Some wanted
kept-content kept number wanted Right None is there same = absurd there
kept-content kept number wanted Right (Some rows) is there same =
    is ∙ ap (λ (its : List (List Cell)). Some its) (same rows is)

-- the depot of a core
abbrev own-of : CoreOf → (lengths : List ℕ) → DepotOf
own-of core lengths = record {
  desc = core.desc;
  entries = core.state.journal;
  lengths = lengths;
}

module _ (files : FilesAreReadAgain) (image : Image) (core : CoreOf) (lengths : List ℕ)
    (kept : Kept) where
  -- the rows that are kept of the latest version of a partition
  kept-latest : IsSoundAs (own-of core lengths) image → IsFound core.desc core.state.journal core
      → KeepsHeld core kept → KeepsRead (own-of core lengths) image core kept
      → (key : Key) (number : ℕ)
      → entry_in core.state.held (latest core.desc core.state.journal key) ≡ Some number
      → kept number ≡ Some (latest_content core.desc core.state.journal key)
  kept-latest sound found holds read key zero held =
      let version = latest core.desc core.state.journal key in
      absurd (omega (arith, (IsHeldAt-held core version zero found held).some))
  kept-latest sound found holds read key (suc place) held =
      let journal = core.state.journal in
      let version = latest core.desc journal key in
      let here = IsHeldAt-held core version (suc place) found held in
      let at = here.install in
      let there : slice_get journal place ≡ Some (entry.Install key at.1) =
      ap (slice_get journal) (omega (arith, at.2)) ∙ at.3 in
      let rows = sound.latest place key at.1 there here.latest in
      kept-content kept (suc place) (latest_content core.desc journal key)
      (AreRowsOf (types_of core.desc key.table)) (kept (suc place)) refl
      (holds.each version (suc place) held)
      (λ told is. same_Ok
      (sym (read version place (length (rows_bytes (latest_content core.desc journal key))) told
      held rows.stored.stated is)
      ∙ files.rows image (types_of core.desc key.table) (suc place)
      (latest_content core.desc journal key) rows.typed rows.stored.file))

  -- and those of each version that is held: only latest ones are
  contents-own : IsSoundAs (own-of core lengths) image → IsFound core.desc core.state.journal core
      → KeepsHeld core kept → KeepsRead (own-of core lengths) image core kept → KeepsContents core kept
  contents-own sound found holds read = λ asked number held.
      let last = (found.held.others asked (rw held refl)).last in
      let same : asked ≡ latest core.desc core.state.journal asked.key =
      ap (λ (number : ℕ). record { key = asked.key; version = number }) last in
      kept-latest sound found holds read asked.key number
      (ap (λ (its : Input). entry_in core.state.held its) (sym same) ∙ held)
      ∙ ap (λ (number : ℕ). Some (content core.desc core.state.journal asked.key number)) (sym last)

-- the depot of a core that was found for one is that
depot-own : (depot : DepotOf) (found : Found) → IsFoundAs depot found
    → depot ≡ own-of found.core depot.lengths
depot-own depot found is = rw (is.desc, ap (λ (state : State). state.journal) is.core.state) refl

-- in a sound image just its depot is found, with the rows of its versions
pub HoldsSound-found : FilesAreReadAgain → FindsWhatIsHeld → (depot : DepotOf) (image : Image)
    (found : Found) → IsSoundAs depot image → IsFoundIn image found → HoldsSound depot found
HoldsSound-found files finds depot image found sound is =
    let same : is.depot ≡ depot =
    same_Ok (sym is.there ∙ finds depot image sound) in
    let mine = subst (λ (its : DepotOf). IsFoundAs its found) same is.is in
    let own = depot-own depot found mine in
    record {
      is = mine;
      rows = contents-own files image found.core depot.lengths (kept_in found.shelf)
          (subst (λ (its : DepotOf). IsSoundAs its image) own sound)
          (IsFound-own depot.desc depot.entries found.core mine.core) mine.kept
          (subst (λ (its : DepotOf). KeepsRead its image found.core (kept_in found.shelf)) own
          (subst (λ (its : DepotOf). KeepsRead its image found.core (kept_in found.shelf)) same
          is.read));
    }
