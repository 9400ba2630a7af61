-- Which files are not needed: those of entries to come, and of installs that a later one has
-- replaced: `some_files_do_not_count`.
use Rattle.std.proofs.Common.{◌≡◌, ◌≢◌, ◌<◌, ◌-◌, ◌∙◌, ℕ, suc, List, [], Some, ap, arith, drop}
use Rattle.std.proofs.Common.{false, inl, inr, length, map, refl, subst, sym, take, true}
use Rattle.std.specs.Prelude.{IfSome, IsSomeAnd, None, Option, slice_get}
use Rattle.std.specs.List.{list_any}
use Rattle.std.proofs.lemmas.Bool.{both_ways, false_from_ne_true, false≢true, not-true}
use Rattle.std.proofs.lemmas.List.{take-append-drop}
use Rattle.std.proofs.lemmas.Option.{same_Some, slice_get_within}
use Rattle.catalog_journal.specs.Catalog.{MARK_FILE}
use Rattle.desc_types.specs.declared.table.Key.{Key}
use Rattle.desc_types.specs.Descriptions.{DescOf}
use Rattle.view_meaning.specs.declared.journal.Entry.{Entry}
use Rattle.view_meaning.specs.declared.journal.Entry.TheVariants as entry
use Rattle.view_meaning.specs.Versions.{install_places, installs, place_of, version}
use Rattle.view_meaning.proofs.AmongLemmas.{is_key-same}
use Rattle.view_meaning.proofs.ListLemmas.{filter-empty}
use Rattle.view_meaning.proofs.VersionLemmas.{install_places-same, version-view}
use Rattle.query_pin.specs.declared.input.Input.{Input}
use Rattle.machine_meaning.specs.States.{MayBeHeld}
use Rattle.depot_recovery.specs.Depots.{is_latest}
use Rattle.depot_recovery.specs.Growth.{SomeFilesDoNotCount}
use Rattle.depot_recovery.specs.Images.{IsNeeded, NeedsFile}

-- the entry that needs the file of this number
record NeededBy (journal : List Entry) (number : ℕ) : Type 0 where
  place : ℕ
  next : Entry
  is : number ≡ suc place
  there : slice_get journal place ≡ Some next
  needs : NeedsFile journal number next

-- except the two files that are always needed, a needed file has one
NeededBy-found : (journal : List Entry) (number place : ℕ) (found : Option Entry)
    → number ≡ suc place → slice_get journal place ≡ found
    → IsSomeAnd found (NeedsFile journal number) → NeededBy journal number
NeededBy-found journal number place None is there needs = absurd needs
NeededBy-found journal number place (Some next) is there needs =
    record { place = place; next = next; is = is; there = there; needs = needs }

IsNeeded-found : (journal : List Entry) (number : ℕ) → 0 < number → number ≢ MARK_FILE
    → IsNeeded journal number → NeededBy journal number
IsNeeded-found journal number some apart (inl catalog) = absurd (omega (arith, some, catalog))
IsNeeded-found journal number some apart (inr (inl mark)) = absurd (apart mark)
IsNeeded-found journal number some apart (inr (inr needed)) =
    NeededBy-found journal number needed.0 (slice_get journal needed.0) needed.1 refl needed.2

-- an entry to come is not there
IsNeeded-to_come : (journal : List Entry) (file : ℕ) → length journal < file → file ≢ MARK_FILE
    → IsNeeded journal file → ⊥
IsNeeded-to_come journal file later apart needed =
    let found = IsNeeded-found journal file (omega (arith, later)) apart needed in
    omega (arith, later, found.is, slice_get_within journal found.place found.next found.there)

-- an install of a partition that is not its latest needs no file
NeedsFile-older : (journal : List Entry) (number : ℕ) (key : Key) (next : Entry)
    → installs key next ≡ true → is_latest journal number key ≡ false
    → NeedsFile journal number next → ⊥
NeedsFile-older journal number key (entry.Load delivery) same older needs = false≢true same
NeedsFile-older journal number key (entry.Install installed at) same older needs =
    both_ways (is_latest journal number key) older
    (subst (λ (key : Key). is_latest journal number key ≡ true) (is_key-same key installed same)
    needs)

-- if a partition has more installs than the first so many entries, none of these is its latest
is_latest-fewer : (journal : List Entry) (number : ℕ) (key : Key)
    → length (install_places (take number journal) key) < length (install_places journal key)
    → is_latest journal number key ≡ false
is_latest-fewer journal number key fewer =
    false_from_ne_true (is_latest journal number key) (λ last.
    let none : install_places (drop number journal) key ≡ [] =
    ap (λ (found : List Entry). map place_of found)
    (filter-empty (installs key) (drop number journal)
    (not-true (list_any (installs key) (drop number journal)) last)) in
    omega (
      arith,
      fewer,
      ap length (install_places-same (take number journal) (drop number journal) key none),
      ap (λ (all : List Entry). length (install_places all key))
          (take-append-drop number journal),
    ))

-- so a version that was replaced is not the latest
is_latest-dead : (desc : DescOf) (journal : List Entry) (dead : Input) (number : ℕ)
    → MayBeHeld desc journal dead number → dead.version < version desc journal dead.key
    → is_latest journal number dead.key ≡ false
is_latest-dead desc journal dead number may replaced =
    is_latest-fewer journal number dead.key
    (omega (arith, replaced, may.made.number, version-view desc journal dead.key may.view))

-- and the file of its entry is not needed
IsNeeded-dead : (desc : DescOf) (journal : List Entry) (dead : Input) (number : ℕ)
    → MayBeHeld desc journal dead number → dead.version < version desc journal dead.key
    → number ≢ MARK_FILE → IsNeeded journal number → ⊥
IsNeeded-dead desc journal dead number may replaced apart needed =
    let found = IsNeeded-found journal number (omega (arith, may.made.some)) apart needed in
    let there : slice_get journal (number - 1) ≡ Some found.next =
    ap (slice_get journal) (omega (arith, found.is)) ∙ found.there in
    NeedsFile-older journal number dead.key found.next
    (subst (λ (found : Option Entry). IfSome found (λ last. installs dead.key last ≡ true)) there
    may.made.there)
    (is_latest-dead desc journal dead number may replaced) found.needs

-- nor is that of an install at a place, if a later one is of the same partition
IsNeeded-older : (journal : List Entry) (place : ℕ) (key : Key) (at : ℕ)
    → slice_get journal place ≡ Some (entry.Install key at)
    → is_latest journal (suc place) key ≡ false → suc place ≢ MARK_FILE
    → IsNeeded journal (suc place) → ⊥
IsNeeded-older journal place key at there older apart needed =
    let found = IsNeeded-found journal (suc place) (omega arith) apart needed in
    let same : entry.Install key at ≡ found.next =
    same_Some (entry.Install key at) found.next
    (sym there ∙ ap (slice_get journal) (omega (arith, found.is)) ∙ found.there) in
    both_ways (is_latest journal (suc place) key) older
    (subst (NeedsFile journal (suc place)) (sym same) found.needs)

pub some_files_do_not_count : SomeFilesDoNotCount
some_files_do_not_count = record {
  to_come = IsNeeded-to_come;
  older = IsNeeded-older;
  dead = IsNeeded-dead;
}
