-- The contents of held versions are kept after no entries (`KeepsContents-none`), and they stay kept:
-- after a load (`KeepsContents-load`), an install (`KeepsContents-install`), and in a state that is as
-- it was (`KeepsContents-same`).
use Rattle.std.proofs.Common.{◌≡◌, ◌∙◌, ◌≤◌, ◌+◌, ◌-◌, ◌++◌, ◌∷◌, ℕ, List, [], Some, ap, arith}
use Rattle.std.proofs.Common.{length, refl, subst, sym, take, true}
use Rattle.std.specs.Prelude.{Bool, IfSome, IsSome, IsSomeAnd, None, Option, false, if◌then◌else◌}
use Rattle.std.specs.Prelude.{slice_get, ◌==◌}
use Rattle.std.proofs.lemmas.Bool.{and_from, eq-eqb, false_from_ne_true, false≢true}
use Rattle.std.proofs.lemmas.Bool.Decides.{nat_tests}
use Rattle.std.proofs.Math.Seq.{take-append_seam}
use Rattle.depot_cell.specs.declared.cell.Cell.{Cell}
use Rattle.desc_types.specs.declared.table.Key.{Key}
use Rattle.desc_types.specs.Descriptions.{DescOf}
use Rattle.desc_types.specs.Sources.{HasEarlierSources}
use Rattle.view_meaning.specs.declared.journal.Entry.{Entry}
use Rattle.view_meaning.specs.declared.journal.Entry.TheVariants as entry
use Rattle.view_meaning.specs.Drains.{with_install}
use Rattle.view_meaning.specs.Journal.{accepted}
use Rattle.view_meaning.specs.LegalJournals.{IsLegal}
use Rattle.view_meaning.specs.Values.{value}
use Rattle.view_meaning.specs.Partitions.{is_key}
use Rattle.view_meaning.specs.Versions.{is_raw, place_of, version}
use Rattle.view_meaning.proofs.AmongLemmas.{is_key-itself}
use Rattle.view_meaning.proofs.VersionLemmas.{version-take-le, version-view}
use Rattle.query_pin.specs.declared.input.Input.{Input}
use Rattle.query_pin.specs.Inputs.{is_version}
use Rattle.query_pin.specs.Kept.{entry_in}
use Rattle.query_pin.proofs.OrderLemmas.{is_version-same}
use Rattle.machine_meaning.specs.Events.{HoldsAlso, HoldsLatest, IsLatest, made, with_entry}
use Rattle.machine_meaning.specs.States.{IsGood, MayBeHeld, State}
use Rattle.machine_meaning.proofs.ContentLemmas.{held_values, stable_contents}
use Rattle.claim_core.specs.Cores.{SameState}
use Rattle.run_journal.specs.KeptJournals.{HasVersionOf, KeepsContents, content_in, content_read}
use Rattle.run_journal.specs.KeptJournals.{is_entry}

-- rows by the entry that made them
abbrev pub Contents : Type 0
Contents = List (ℕ × List (List Cell))

-- a version that is held has come about
pub known-held : (desc : DescOf) (journal : List Entry) (read : Input) (entry : ℕ)
    → MayBeHeld desc journal read entry → read.version ≤ version desc journal read.key
known-held desc journal read entry may =
    omega (
      arith,
      may.made.number,
      version-view desc (take entry journal) read.key may.view,
      version-take-le desc entry journal read.key,
    )

-- the entry of a held version made it
pub made-held : (desc : DescOf) (state : State) (read : Input) (entry : ℕ)
    → IsGood desc state → entry_in state.held read ≡ Some entry
    → MayBeHeld desc state.journal read entry
made-held desc state read entry good held =
    subst (λ (found : Option ℕ). IfSome found (MayBeHeld desc state.journal read)) held
    (good.held.made read)

-- the content of a held version stays as the journal goes on
content-held : (desc : DescOf) (old : State) (journal : List Entry) (next : Entry) (read : Input)
    (entry : ℕ) → IsGood desc old → IsLegal desc journal
    → journal ≡ with_entry old.journal next → entry_in old.held read ≡ Some entry
    → content_read desc journal read ≡ content_read desc old.journal read
content-held desc old journal next read entry good legal is held =
    ap (λ (journal : List Entry). content_read desc journal read) is
    ∙ stable_contents desc old.journal (next ∷ []) read.key read.version
    (subst (IsLegal desc) is legal)
    (known-held desc old.journal read entry (made-held desc old read entry good held))

-- a load leaves what is held
pub KeepsContents-load : (desc : DescOf) (old new : State) (contents : Contents) (next : Entry)
    → IsGood desc old → IsGood desc new
    → new ≡ record old { journal = with_entry old.journal next }
    → KeepsContents desc old contents → KeepsContents desc new contents
KeepsContents-load desc old new contents next good good_new same keeps = record {
  held = λ read. rw held (kept read (entry_in old.held read) refl (keeps.held read));
  others = λ entry there. rw held (keeps.others entry there);
}
  where
    held : new.held ≡ old.held
    held = ap (λ (state : State). state.held) same

    kept : (read : Input) (found : Option ℕ) → entry_in old.held read ≡ found
        → IfSome found
        (λ entry. content_in contents entry ≡ Some (content_read desc old.journal read))
        → IfSome found
        (λ entry. content_in contents entry ≡ Some (content_read desc new.journal read))
    kept read None is keeps = tt
    kept read (Some entry) is keeps =
        keeps ∙ ap Some (sym (content-held desc old new.journal next read entry good
        good_new.legal (ap (λ (state : State). state.journal) same) is))

-- contents are kept of a state that is as it was
pub KeepsContents-same : (desc : DescOf) (old new : State) (contents : Contents)
    → SameState old new → KeepsContents desc old contents → KeepsContents desc new contents
KeepsContents-same desc old new contents same keeps = record {
  held = λ read. rw (same.held.entry read, same.journal) (keeps.held read);
  others = λ entry there.
      let version = keeps.others entry there in
      record { read = version.read; made = same.held.entry version.read ∙ version.made };
}

-- after no entries nothing is held
pub KeepsContents-none : (desc : DescOf) (state : State) → HoldsLatest desc [] state.held
    → KeepsContents desc state []
KeepsContents-none desc state holds = record {
  held = λ read. none read (entry_in state.held read) refl;
  others = λ entry there. absurd (false≢true there);
}
  where
    none : (read : Input) (found : Option ℕ) → entry_in state.held read ≡ found
        → IfSome found
        (λ entry. content_in [] entry ≡ Some (content_read desc state.journal read))
    none read None is = tt
    none read (Some entry) is =
        let latest : IsLatest desc [] read = holds.others read (rw is refl) in
        let first : version desc [] read.key ≡ 0 = rw latest.view refl in
        absurd (omega arith)

-- nothing is kept of the entry to come
pub content_in-next : (desc : DescOf) (state : State) (contents : Contents) → IsGood desc state
    → KeepsContents desc state contents → content_in contents (length state.journal + 1) ≡ None
content_in-next desc state contents good keeps =
    at (content_in contents (length state.journal + 1)) refl
  where
    at : (found : Option (List (List Cell)))
        → content_in contents (length state.journal + 1) ≡ found → found ≡ None
    at None is = refl
    at (Some rows) is =
        let version = keeps.others (length state.journal + 1) (rw is refl) in
        let made = made-held desc state version.read (length state.journal + 1) good version.made in
        absurd (omega (arith, made.made.past))

-- an entry is itself, and no later one
pub is_entry-itself : (entry : ℕ) → is_entry entry entry ≡ true
is_entry-itself entry = grind (arith, nat_tests)

is_entry-later : (last entry : ℕ) → entry ≤ last → is_entry (last + 1) entry ≡ false
is_entry-later last entry within = grind (arith, nat_tests, within)

pub is_entry-same : (entry other : ℕ) → is_entry entry other ≡ true → entry ≡ other
is_entry-same entry other same = grind (arith, nat_tests, same)

-- an item at the end of a list is found there
slice_get-last : {X : Type 0} (xs : List X) (last : X)
    → slice_get (xs ++ last ∷ []) (length xs) ≡ Some last
slice_get-last [] last = refl
slice_get-last (x ∷ xs) last = slice_get-last xs last

-- an install of a partition of a view, whose rows are kept under its entry
module _ (desc : DescOf) (old new : State) (key : Key) (contents more : Contents)
    (rows : List (List Cell)) (earlier : HasEarlierSources desc)
    (good : IsGood desc old) (good_new : IsGood desc new)
    (view : is_raw (slice_get desc.tables key.table) ≡ false)
    (journal : new.journal ≡ with_install old.journal key)
    (also : HoldsAlso old.held new.held (made desc old.journal key) (length old.journal + 1))
    (kept : (entry : ℕ) → content_in more entry ≡ (if is_entry (length old.journal + 1) entry
    then Some rows else content_in contents entry))
    (is_value : rows ≡ value desc (accepted old.journal) key) where
  -- the new version
  abbrev next : Input
  next = made desc old.journal key

  abbrev last : ℕ
  last = length old.journal + 1

  -- it was not held before
  apart-old : (read : Input) (entry : ℕ) → entry_in old.held read ≡ Some entry
      → is_version next read ≡ false
  apart-old read entry held = false_from_ne_true (is_version next read) (λ same.
      let is : read ≡ next = is_version-same next read same in
      let known : read.version ≤ version desc old.journal read.key =
      known-held desc old.journal read entry (made-held desc old read entry good held) in
      let newer : read.version ≡ version desc old.journal key + 1 =
      ap (λ (read : Input). read.version) is in
      let same_key : version desc old.journal read.key ≡ version desc old.journal key =
      ap (λ (read : Input). version desc old.journal read.key) is in
      omega (arith, known, newer, same_key))

  -- it is held with its entry
  held-next : entry_in new.held next ≡ Some last
  held-next = also.entries next
      ∙ ap (λ (same : Bool). if same then Some last else entry_in old.held next)
      (and_from (is_key key key) (next.version == next.version) (is_key-itself key)
      (eq-eqb next.version next.version refl))

  -- its content is the value of its partition
  content-next : content_read desc new.journal next ≡ rows
  content-next =
      let there : slice_get new.journal (last - 1) ≡ Some (entry.Install key (length old.journal)) =
      ap (slice_get new.journal) (omega arith)
      ∙ ap (λ (all : List Entry). slice_get all (length old.journal)) journal
      ∙ slice_get-last old.journal (entry.Install key (length old.journal)) in
      let front : take (length old.journal) new.journal ≡ old.journal =
      ap (take (length old.journal)) journal
      ∙ take-append_seam old.journal (entry.Install key (length old.journal) ∷ []) in
      let P : Option Entry → Type 0 = λ found. IsSomeAnd found (λ install.
      content_read desc new.journal next
      ≡ value desc (accepted (take (place_of install) new.journal)) key) in
      subst P there (held_values desc new next last earlier good_new held-next)
      ∙ ap (λ (journal : List Entry). value desc (accepted journal) key) front
      ∙ sym is_value

  -- what was held before is kept
  kept-old : (read : Input) (found : Option ℕ) → entry_in old.held read ≡ found
      → IfSome found
      (λ entry. content_in contents entry ≡ Some (content_read desc old.journal read))
      → IfSome found
      (λ entry. content_in more entry ≡ Some (content_read desc new.journal read))
  kept-old read None is keeps = tt
  kept-old read (Some place) is keeps =
      kept place
      ∙ ap (λ (same : Bool). if same then Some rows else content_in contents place)
      (is_entry-later (length old.journal) place
      (made-held desc old read place good is).made.past)
      ∙ keeps
      ∙ ap Some (sym (content-held desc old new.journal
      (entry.Install key (length old.journal)) read place good good_new.legal journal is))

  -- the rows of the new version are kept under its entry
  kept-next : content_in more last ≡ Some (content_read desc new.journal next)
  kept-next = kept last
      ∙ ap (λ (same : Bool). if same then Some rows else content_in contents last)
      (is_entry-itself last)
      ∙ ap Some (sym content-next)

  -- each version that is held is kept
  held-all : KeepsContents desc old contents → (read : Input) (same : Bool)
      → is_version next read ≡ same
      → IfSome (if same then Some last else entry_in old.held read)
      (λ entry. content_in more entry ≡ Some (content_read desc new.journal read))
  held-all keeps read true same =
      subst (λ (read : Input). content_in more last ≡ Some (content_read desc new.journal read))
      (sym (is_version-same next read same)) kept-next
  held-all keeps read false apart =
      kept-old read (entry_in old.held read) refl (keeps.held read)

  -- and nothing else is
  others-all : KeepsContents desc old contents → (entry : ℕ) (same : Bool)
      → is_entry last entry ≡ same
      → IsSome (if same then Some rows else content_in contents entry)
      → HasVersionOf new.held entry
  others-all keeps entry true same there =
      record { read = next; made = held-next ∙ ap Some (is_entry-same last entry same) }
  others-all keeps entry false apart there =
      let version = keeps.others entry there in
      record {
        read = version.read;
        made = also.entries version.read
            ∙ ap (λ (same : Bool). if same then Some last else entry_in old.held version.read)
            (apart-old version.read entry version.made)
            ∙ version.made;
      }

  pub KeepsContents-install : KeepsContents desc old contents → KeepsContents desc new more
  KeepsContents-install keeps = record {
    held = λ read. rw (also.entries read)
        (held-all keeps read (is_version next read) refl);
    others = λ entry there. others-all keeps entry (is_entry last entry) refl
        (subst (λ (found : Option (List (List Cell))). IsSome found) (kept entry) there);
  }
