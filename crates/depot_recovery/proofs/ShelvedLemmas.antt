-- What a shelf keeps of the entries so far, and which files of them were fine.
use Rattle.std.proofs.Common.{◌≡◌, ◌∙◌, ◌+◌, ◌<◌, ℕ, zero, suc, List, Some, None}
use Rattle.std.proofs.Common.{ap, arith, inl, inr, length, nat_eq, refl, subst, sym, true, drop}
use Rattle.std.specs.Prelude.{◌≢◌, ⊤, Option, Result, Ok, Err, IfSome, IsSome, IsSomeAnd, is_some, slice_get}
use Rattle.std.proofs.lemmas.Bool.{cases_Bool, cases_lt, false≢true}
use Rattle.std.proofs.lemmas.Option.{same_Some}
use Rattle.std.specs.Result.{is_ok}
use Rattle.claim_core.specs.Cores.{CoreOf}
use Rattle.query_pin.specs.declared.input.Input.{Input}
use Rattle.query_pin.specs.Kept.{entry_in}
use Rattle.machine_meaning.specs.States.{latest}
use Rattle.std.proofs.lemmas.List.{drop_all}
use Rattle.catalog_journal.specs.declared.fault.LogFault.{LogFault}
use Rattle.depot_cell.specs.declared.cell.Cell.{Cell}
use Rattle.depot_disk.specs.Image.{Image}
use Rattle.std.proofs.lemmas.Bool.Decides.{nat_tests}
use Rattle.desc_types.specs.Descriptions.{DescOf}
use Rattle.row_codec.specs.Laws.{AreRowsOf}
use Rattle.row_codec.proofs.CodecLemmas.{same_Ok}
use Rattle.version_store.specs.Reading.{rows_in}
use Rattle.version_store.specs.Shelves.{Kept, KeepsAlso, KeepsNothing, ShelfOf, kept_in}
use Rattle.view_meaning.specs.declared.journal.Entry.{Entry}
use Rattle.view_meaning.specs.declared.journal.Entry.TheVariants as entry
use Rattle.depot_recovery.specs.declared.shelving.Latest.{Latest}
use Rattle.depot_recovery.specs.Depots.{DepotOf, is_latest, types_of}
use Rattle.depot_recovery.specs.Found.{◌>>=◌, check_file, check_files, in_file, with_files}
use Rattle.depot_recovery.specs.Recovered.{KeepsHeld, KeepsRead, Refuses}
use Rattle.depot_recovery.specs.Replaying.{IsReplayOf, depot_by}
use Rattle.depot_recovery.specs.Shelving.{IsKeptOf, ReadsBefore, Shelves, ShelvesBefore}
use Rattle.depot_recovery.specs.Shelving.{ShelvesNext, files_from, latest_in, latest_of, rows_found}
use Rattle.depot_recovery.proofs.BodiesLemmas.{length-bodies_of, lengths-same}
use Rattle.depot_recovery.proofs.LatestHeldLemmas.{IsHeldAt-held, held-latest_in, latest_in-held}
use Rattle.depot_recovery.proofs.LatestHeldLemmas.{place_there}
use Rattle.depot_recovery.proofs.ReadOnLemmas.{drop-more}
use Rattle.depot_recovery.proofs.ReadingLemmas.{Refuses-passed}

-- before the first entry nothing is kept, and all files are still to be read
pub ShelvesBefore-first : (depot : DepotOf) (kept : Kept) → KeepsNothing kept
    → ShelvesBefore depot 1 kept
ShelvesBefore-first depot kept nothing = record {
  before = before;
  later = λ number after. nothing number;
}
  where
    before : (number : ℕ) → number < 1 → IsKeptOf depot.desc (latest_in depot number) (kept number)
    before zero below = nothing 0
    before (suc place) below = absurd (omega (arith, below))

pub ReadsBefore-first : (holds : Option Image) (depot : DepotOf) (kept : Kept)
    → KeepsNothing kept → IfSome holds (λ image. ReadsBefore image depot 1 kept)
ReadsBefore-first None depot kept nothing = tt
ReadsBefore-first (Some image) depot kept nothing = record {
  checked = λ place is. let same : 0 ≡ place = omega (arith, is) in
      ap (files_from image depot) same;
  read = read;
}
  where
    read : (number : ℕ) → number < 1
        → rows_found image depot.desc number (latest_in depot number) ≡ Ok (kept number)
    read zero below = ap Ok (sym (nothing 0))
    read (suc place) below = absurd (omega (arith, below))

-- a fact of the numbers below one, and of that one, is one of those below the next
below-next : (P : ℕ → Type 0) (next : ℕ) → ((number : ℕ) → number < next → P number) → P next
    → (number : ℕ) → number < next + 1 → P number
below-next P next before here number below =
    elim (cases_lt number next) [
      | inl less ↦ before number less
      | inr more ↦ subst P (omega (arith, below, more)) here
    ]

pub ShelvesBefore-step : (depot : DepotOf) (next : ℕ) (old new : Kept)
    → ShelvesBefore depot next old → ShelvesNext depot.desc next (latest_in depot next) old new
    → ShelvesBefore depot (next + 1) new
ShelvesBefore-step depot next old new shelves more = record {
  before = below-next (λ number. IsKeptOf depot.desc (latest_in depot number) (new number)) next
      (λ number below. subst (IsKeptOf depot.desc (latest_in depot number))
      (sym (more.others number (λ same. omega (arith, below, same))))
      (shelves.before number below)) more.here;
  later = λ number after. more.others number (λ same. omega (arith, after, same))
      ∙ shelves.later number (omega (arith, after));
}

-- what is found, without the rows
abbrev only_fine : Result (Option (List (List Cell))) LogFault → Result ⊤ LogFault
only_fine finding = finding >>= (λ rows. Ok tt)

-- the test of a file is that its rows are found
in_file-passed : {A B C : Type 0} (file : ℕ) (finding : Result A LogFault)
    (next : A → B) (last : C) → (finding >>= (λ value. Ok last))
    ≡ ((finding >>= (λ value. Ok (next value))) >>= (λ value. Ok last))
in_file-passed file (Ok value) next last = refl
in_file-passed file (Err fault) next last = refl

check_file-found : (desc : DescOf) (image : Image) (journal : List Entry) (number len : ℕ)
    (next : Entry) → check_file desc image journal number len next
    ≡ only_fine (rows_found image desc number (latest_of journal number len next))
check_file-found desc image journal number len (entry.Load delivery) = refl
check_file-found desc image journal number len (entry.Install key at) =
    elim (cases_Bool (is_latest journal number key)) [
      | inl latest ↦ rw latest (in_file-passed number
          (in_file number (rows_in image (types_of desc key.table) number len)) Some tt)
      | inr older ↦ rw older refl
    ]

-- the files from a place on: that of its entry, and those after it
files_from-there : (image : Image) (depot : DepotOf) (place len : ℕ) (next : Entry)
    → slice_get depot.entries place ≡ Some next → slice_get depot.lengths place ≡ Some len
    → files_from image depot place
    ≡ (only_fine (rows_found image depot.desc (suc place) (latest_in depot (suc place)))
    >>= (λ fine. files_from image depot (suc place)))
files_from-there image depot place len next there stated =
    rw (
      drop-more depot.entries place next there,
      drop-more depot.lengths place len stated,
      there,
      stated,
    )
    (ap (λ (checked : Result ⊤ LogFault). checked >>= (λ fine. check_files depot.desc image
    depot.entries (suc (suc place)) (drop (suc place) depot.entries)
    (drop (suc place) depot.lengths)))
    (check_file-found depot.desc image depot.entries (suc place) len next))

-- each body after the first has its entry, and its length
pub length-bodies : (bodies : List (List ℕ)) (core : CoreOf) → IsReplayOf bodies core
    → length bodies ≡ suc (length core.state.journal)
length-bodies bodies core replayed =
    ap length replayed.spelled ∙ length-bodies_of (depot_by bodies core) replayed.made

files_from-step : (image : Image) (bodies : List (List ℕ)) (core : CoreOf) (place : ℕ)
    → IsReplayOf bodies core → suc place < length bodies
    → files_from image (depot_by bodies core) place
    ≡ (only_fine (rows_found image core.desc (suc place)
    (latest_in (depot_by bodies core) (suc place))) >>= (λ fine. files_from image (depot_by bodies core) (suc place)))
files_from-step image bodies core place replayed below =
    let depot = depot_by bodies core in
    let many = length-bodies bodies core replayed in
    let next = place_there depot.entries place (omega (arith, below, many)) in
    let len = place_there depot.lengths place
    (omega (arith, below, many, lengths-same depot replayed.made)) in
    files_from-there image depot place len.0 next.0 next.1 len.1

pub ReadsBefore-step : (image : Image) (bodies : List (List ℕ)) (core : CoreOf) (next : ℕ)
    (old new : Kept) → IsReplayOf bodies core → 0 < next → next < length bodies
    → ReadsBefore image (depot_by bodies core) next old
    → ((other : ℕ) → other ≢ next → new other ≡ old other)
    → rows_found image core.desc next (latest_in (depot_by bodies core) next) ≡ Ok (new next)
    → ReadsBefore image (depot_by bodies core) (next + 1) new
ReadsBefore-step image bodies core zero old new replayed some below reads others found =
    absurd (omega (arith, some))
ReadsBefore-step image bodies core (suc place) old new replayed some below reads others found =
    let depot = depot_by bodies core in record {
      checked = λ after is. let same : suc place ≡ after = omega (arith, is) in
          reads.checked place refl
          ∙ files_from-step image bodies core place replayed below
          ∙ ap (λ (told : Result (Option (List (List Cell))) LogFault).
          only_fine told >>= (λ fine. files_from image depot (suc place))) found
          ∙ ap (files_from image depot) same;
      read = below-next (λ number. rows_found image core.desc number (latest_in depot number)
          ≡ Ok (new number)) (suc place)
          (λ number less. reads.read number less
          ∙ ap Ok (sym (others number (λ same. omega (arith, less, same))))) found;
    }

Refuses-only : (rows : Result (Option (List (List Cell))) LogFault) (refused : LogFault)
    → Refuses rows refused → Refuses (only_fine rows) refused
Refuses-only rows refused refuses = Refuses-passed rows (λ rows. Ok tt) refused refuses

-- the first fault in a file is that of all
pub Refuses-files : (image : Image) (bodies : List (List ℕ)) (core : CoreOf) (next : ℕ)
    (kept : Kept) (refused : LogFault) → IsReplayOf bodies core → 0 < next
    → next < length bodies → ReadsBefore image (depot_by bodies core) next kept
    → Refuses (rows_found image core.desc next (latest_in (depot_by bodies core) next)) refused
    → Refuses (with_files image (depot_by bodies core)) refused
Refuses-files image bodies core zero kept refused replayed some below reads refuses =
    absurd (omega (arith, some))
Refuses-files image bodies core (suc place) kept refused replayed some below reads refuses =
    let depot = depot_by bodies core in
    let rows = rows_found image core.desc (suc place) (latest_in depot (suc place)) in
    Refuses-passed (files_from image depot 0) (λ fine. Ok depot) refused
    (subst (λ (finding : Result ⊤ LogFault). Refuses finding refused)
    (sym (reads.checked place refl ∙ files_from-step image bodies core place replayed below))
    (Refuses-passed (only_fine rows) (λ fine. files_from image depot (suc place))
    refused (Refuses-only rows refused refuses)))

-- after the last entry all files are fine
with_files-read : (image : Image) (bodies : List (List ℕ)) (core : CoreOf) (kept : Kept)
    → IsReplayOf bodies core → ReadsBefore image (depot_by bodies core) (length bodies) kept
    → with_files image (depot_by bodies core) ≡ Ok (depot_by bodies core)
with_files-read image bodies core kept replayed reads =
    let depot = depot_by bodies core in
    let none : files_from image depot (length depot.entries) ≡ Ok tt =
    rw (drop_all (length depot.entries) depot.entries (omega arith)) refl in
    ap (λ (checked : Result ⊤ LogFault). checked >>= (λ fine. Ok depot))
    (reads.checked (length depot.entries) (length-bodies bodies core replayed) ∙ none)

-- the rows that were found are those in the file
rows_in-found : (file : ℕ) (finding : Result (List (List Cell)) ℕ) (rows : List (List Cell))
    → (in_file file finding >>= (λ rows. Ok (Some rows))) ≡ Ok (Some rows) → finding ≡ Ok rows
rows_in-found file (Ok value) rows found = ap Ok (same_Some value rows (same_Ok found))
rows_in-found file (Err place) rows found = absurd (false≢true (ap is_ok found))

KeepsRead-all : (image : Image) (bodies : List (List ℕ)) (core : CoreOf) (kept : Kept)
    → IsReplayOf bodies core → ReadsBefore image (depot_by bodies core) (length bodies) kept
    → KeepsRead (depot_by bodies core) image core kept
KeepsRead-all image bodies core kept replayed reads = λ read place len rows held stated there.
    let depot = depot_by bodies core in
    rows_in-found (suc place) (rows_in image (types_of core.desc read.key.table) (suc place) len)
    rows
    (sym (ap (rows_found image core.desc (suc place))
    (latest_in-held depot core read place len replayed.found refl held stated))
    ∙ reads.read (suc place)
    (omega (
      arith,
      length-bodies bodies core replayed,
      (IsHeldAt-held core read (suc place) replayed.found held).past,
    ))
    ∙ ap Ok there)

pub Shelves-all : (holds : Option Image) (bodies : List (List ℕ)) (core : CoreOf) (next : ℕ)
    (kept : ShelfOf) → IsReplayOf bodies core → next ≡ length bodies
    → IfSome holds (λ image. ReadsBefore image (depot_by bodies core) next (kept_in kept))
    → IfSome holds (λ image. Shelves image (depot_by bodies core) core (Ok kept))
Shelves-all None bodies core next kept replayed end reads = tt
Shelves-all (Some image) bodies core next kept replayed end reads =
    let all = subst (λ (next : ℕ). ReadsBefore image (depot_by bodies core) next (kept_in kept)) end
    reads in (
      with_files-read image bodies core (kept_in kept) replayed all,
      KeepsRead-all image bodies core (kept_in kept) replayed all,
    )

-- what is kept is held, and what is held is kept
KeepsHeld-each : (bodies : List (List ℕ)) (core : CoreOf) (kept : Kept) (read : Input)
    (number : ℕ) → IsReplayOf bodies core
    → ShelvesBefore (depot_by bodies core) (length bodies) kept
    → entry_in core.state.held read ≡ Some number
    → IsSomeAnd (kept number) (AreRowsOf (types_of core.desc read.key.table))
KeepsHeld-each bodies core kept read zero replayed shelves held =
    absurd (omega (arith, (IsHeldAt-held core read zero replayed.found held).some))
KeepsHeld-each bodies core kept read (suc place) replayed shelves held =
    let depot = depot_by bodies core in
    let many = length-bodies bodies core replayed in
    let past = (IsHeldAt-held core read (suc place) replayed.found held).past in
    let len = place_there depot.lengths place
    (omega (arith, past, lengths-same depot replayed.made)) in
    subst (λ (latest : Option Latest). IsKeptOf core.desc latest (kept (suc place)))
    (latest_in-held depot core read place len.0 replayed.found refl held len.1)
    (shelves.before (suc place) (omega (arith, many, past)))

kept_latest : (desc : DescOf) (latest : Option Latest) (rows : Option (List (List Cell)))
    → IsKeptOf desc latest rows → IsSome rows → (some : Latest) × (latest ≡ Some some)
kept_latest desc (Some known) rows kept there = (known, refl)
kept_latest desc None rows kept there =
    absurd (false≢true (sym (ap is_some kept) ∙ there))

KeepsHeld-others : (bodies : List (List ℕ)) (core : CoreOf) (kept : Kept) (next number : ℕ)
    → IsReplayOf bodies core → ShelvesBefore (depot_by bodies core) next kept
    → IsSome (kept number) → (read : Input) × (entry_in core.state.held read ≡ Some number)
KeepsHeld-others bodies core kept next number replayed shelves there =
    elim (cases_lt number next) [
      | inl less ↦
          let some = kept_latest core.desc (latest_in (depot_by bodies core) number) (kept number)
          (shelves.before number less) there in (
            latest core.desc core.state.journal some.0.key,
            held-latest_in (depot_by bodies core) core number some.0 replayed.found refl some.1,
          )
      | inr more ↦ absurd (false≢true (sym (ap is_some (shelves.later number more)) ∙ there))
    ]

pub KeepsHeld-all : (bodies : List (List ℕ)) (core : CoreOf) (next : ℕ) (kept : Kept)
    → IsReplayOf bodies core → next ≡ length bodies
    → ShelvesBefore (depot_by bodies core) next kept → KeepsHeld core kept
KeepsHeld-all bodies core next kept replayed end shelves = record {
  each = λ read number held. KeepsHeld-each bodies core kept read number replayed
      (subst (λ (next : ℕ). ShelvesBefore (depot_by bodies core) next kept) end shelves) held;
  others = λ number there. KeepsHeld-others bodies core kept next number replayed shelves there;
}

-- what was read of the file of a latest install is what is found in it
rows_found-some : (image : Image) (desc its : DescOf) (number : ℕ) (known : Latest)
    (told : Option Latest) → its ≡ desc → Some known ≡ told
    → rows_found image desc number told
    ≡ (in_file number (rows_in image (types_of its known.key.table) number known.len)
    >>= (λ rows. Ok (Some rows)))
rows_found-some image desc its number known told same is =
    ap (rows_found image desc number) (sym is)
    ∙ ap (λ (its : DescOf). in_file number (rows_in image (types_of its known.key.table) number
    known.len) >>= (λ rows. Ok (Some rows))) (sym same)

pub rows_found-fault : (holds : Option Image) (desc its : DescOf) (number : ℕ) (known : Latest)
    (told : Option Latest) (refused : LogFault) → its ≡ desc → Some known ≡ told
    → IfSome holds (λ image. Refuses
    (in_file number (rows_in image (types_of its known.key.table) number known.len)) refused)
    → IfSome holds (λ image. Refuses (rows_found image desc number told) refused)
rows_found-fault None desc its number known told refused same is refuses = tt
rows_found-fault (Some image) desc its number known told refused same is refuses =
    subst (λ (finding : Result (Option (List (List Cell))) LogFault). Refuses finding refused)
    (sym (rows_found-some image desc its number known told same is))
    (Refuses-passed (in_file number (rows_in image (types_of its known.key.table) number known.len))
    (λ rows. Ok (Some rows)) refused refuses)

pub rows_found-kept : (holds : Option Image) (desc its : DescOf) (number : ℕ) (known : Latest)
    (told : Option Latest) (rows : List (List Cell)) (old new : Kept) → its ≡ desc
    → Some known ≡ told → KeepsAlso old new number rows
    → IfSome holds (λ image.
    in_file number (rows_in image (types_of its known.key.table) number known.len) ≡ Ok rows)
    → IfSome holds (λ image. rows_found image desc number told ≡ Ok (new number))
rows_found-kept None desc its number known told rows old new same is keeps read = tt
rows_found-kept (Some image) desc its number known told rows old new same is keeps read =
    rows_found-some image desc its number known told same is
    ∙ ap (λ (finding : Result (List (List Cell)) LogFault). finding >>= (λ rows. Ok (Some rows)))
    read
    ∙ ap Ok (sym (keeps number ∙ rw (itself number) refl))
  where
    itself : (number : ℕ) → nat_eq number number ≡ true
    itself number = grind (arith, nat_tests)

-- the same of a step of the loop
pub Reads-step : (holds : Option Image) (bodies : List (List ℕ)) (core : CoreOf) (next : ℕ)
    (old new : Kept) → IsReplayOf bodies core → 0 < next → next < length bodies
    → IfSome holds (λ image. ReadsBefore image (depot_by bodies core) next old)
    → ((other : ℕ) → other ≢ next → new other ≡ old other)
    → IfSome holds (λ image. rows_found image core.desc next
    (latest_in (depot_by bodies core) next) ≡ Ok (new next))
    → IfSome holds (λ image. ReadsBefore image (depot_by bodies core) (next + 1) new)
Reads-step None bodies core next old new replayed some below reads others found = tt
Reads-step (Some image) bodies core next old new replayed some below reads others found =
    ReadsBefore-step image bodies core next old new replayed some below reads others found

pub Refuses-all : (holds : Option Image) (bodies : List (List ℕ)) (core : CoreOf) (next : ℕ)
    (kept : Kept) (refused : LogFault) → IsReplayOf bodies core → 0 < next
    → next < length bodies
    → IfSome holds (λ image. ReadsBefore image (depot_by bodies core) next kept)
    → IfSome holds (λ image. Refuses (rows_found image core.desc next
    (latest_in (depot_by bodies core) next)) refused)
    → IfSome holds (λ image. Refuses (with_files image (depot_by bodies core)) refused)
Refuses-all None bodies core next kept refused replayed some below reads refuses = tt
Refuses-all (Some image) bodies core next kept refused replayed some below reads refuses =
    Refuses-files image bodies core next kept refused replayed some below reads refuses

-- what a disk holds that was only read
pub IfSome-held : (old new : Option Image) (P : Image → Type 0) → new ≡ old → IfSome new P
    → IfSome old P
IfSome-held old new P same fact = subst (λ (holds : Option Image). IfSome holds P) same fact
