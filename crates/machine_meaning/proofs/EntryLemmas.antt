-- What one entry more changes of a journal: of versions, of what made them, and of what may be
-- installed.
use Rattle.std.proofs.Common.{List, Some, [], ap, arith, drop, length, length-append, refl, subst}
use Rattle.std.proofs.Common.{sym, take, true, ℕ, ◌++◌, ◌+◌, ◌-◌, ◌<◌, ◌∙◌, ◌∷◌, ◌≡◌}
use Rattle.std.specs.List.{list_all, list_any}
use Rattle.std.specs.Prelude.{IfSome, Option, false, slice_get}
use Rattle.std.proofs.lemmas.List.{drop-append-le, length_push, take-append-le, take_all}
use Rattle.std.proofs.lemmas.List.Folds.{list_any-append}
use Rattle.desc_types.specs.declared.table.Key.{Key}
use Rattle.desc_types.specs.Descriptions.{DescOf}
use Rattle.desc_types.proofs.ListLemmas.{slice_get-push}
use Rattle.view_meaning.specs.declared.journal.Entry.{Entry}
use Rattle.view_meaning.specs.LegalJournals.{MayInstall}
use Rattle.view_meaning.specs.Partitions.{sources_of}
use Rattle.view_meaning.specs.Staleness.{is_settled, is_stale}
use Rattle.view_meaning.specs.Versions.{install_places, installs, is_raw, version}
use Rattle.view_meaning.proofs.AmongLemmas.{is_key-itself}
use Rattle.view_meaning.proofs.VersionLemmas.{install_places-append, install_places-same}
use Rattle.view_meaning.proofs.VersionLemmas.{version-view}
use Rattle.query_pin.specs.declared.input.Input.{Input}
use Rattle.machine_meaning.specs.Events.{made, with_entry}
use Rattle.machine_meaning.specs.States.{IsMadeBy, MayBeHeld}
use Rattle.view_meaning.specs.declared.journal.Entry.TheVariants as entry

-- one more element stands after all others
slice_get-last : {X : Type 0} (xs : List X) (x : X)
    → slice_get (xs ++ x ∷ []) (length xs) ≡ Some x
slice_get-last [] x = refl
slice_get-last (first ∷ xs) x = slice_get-last xs x

-- an entry that does not install a view's partition leaves its version
pub version-push : (desc : DescOf) (journal : List Entry) (next : Entry) (key : Key)
    → is_raw (slice_get desc.tables key.table) ≡ false → installs key next ≡ false
    → version desc (with_entry journal next) key ≡ version desc journal key
version-push desc journal next key view other =
    version-view desc (with_entry journal next) key view
    ∙ ap length (install_places-same journal (next ∷ []) key (rw other refl))
    ∙ sym (version-view desc journal key view)

-- one that installs it adds a version
pub version-Install : (desc : DescOf) (journal : List Entry) (next : Entry) (key : Key)
    → is_raw (slice_get desc.tables key.table) ≡ false → installs key next ≡ true
    → version desc (with_entry journal next) key ≡ version desc journal key + 1
version-Install desc journal next key view same =
    let one : length (install_places (next ∷ []) key) ≡ 1 = rw same refl in
    omega (
      arith,
      one,
      version-view desc (with_entry journal next) key view,
      version-view desc journal key view,
      ap length (install_places-append journal (next ∷ []) key),
      length-append (install_places journal key) (install_places (next ∷ []) key),
    )

-- what an entry made it made also in a journal with one more
IsMadeBy-push : (journal : List Entry) (next : Entry) (made : Input) (entry : ℕ)
    → IsMadeBy journal made entry → IsMadeBy (with_entry journal next) made entry
IsMadeBy-push journal next made entry is =
    let within : entry - 1 < length journal = omega (arith, is.some, is.past) in
    record {
      some = is.some;
      there = subst (λ (found : Option Entry). IfSome found (λ last. installs made.key last ≡ true))
          (sym (slice_get-push journal next (entry - 1) within)) is.there;
      past = omega (arith, is.past, length_push journal next);
      number = ap (λ (front : List Entry). length (install_places front made.key))
          (take-append-le entry journal (next ∷ []) is.past)
          ∙ is.number;
    }

-- so what may be held may be held
pub MayBeHeld-push : (desc : DescOf) (journal : List Entry) (next : Entry) (held : Input)
    (entry : ℕ) → MayBeHeld desc journal held entry
    → MayBeHeld desc (with_entry journal next) held entry
MayBeHeld-push desc journal next held entry may = record {
  view = may.view;
  made = IsMadeBy-push journal next held entry may.made;
}

-- an install at the end of a journal made the version that its installs count
IsMadeBy-last : (journal : List Entry) (next : Entry) (made : Input)
    → installs made.key next ≡ true
    → length (install_places (with_entry journal next) made.key) ≡ made.version
    → IsMadeBy (with_entry journal next) made (length journal + 1)
IsMadeBy-last journal next made same number =
    let last : length journal + 1 - 1 ≡ length journal = omega arith in
    record {
      some = omega arith;
      there = subst (λ (found : Option Entry). IfSome found (λ last. installs made.key last ≡ true))
          (sym (ap (slice_get (with_entry journal next)) last ∙ slice_get-last journal next)) same;
      past = omega (arith, length_push journal next);
      number = ap (λ (front : List Entry). length (install_places front made.key))
          (take_all (length journal + 1) (with_entry journal next)
          (omega (arith, length_push journal next)))
          ∙ number;
    }

-- so an install of a view's partition makes its next version
pub MayBeHeld-made : (desc : DescOf) (journal : List Entry) (key : Key) (at : ℕ)
    → is_raw (slice_get desc.tables key.table) ≡ false
    → MayBeHeld desc (with_entry journal (entry.Install key at)) (made desc journal key)
    (length journal + 1)
MayBeHeld-made desc journal key at view =
    let next = entry.Install key at in
    record {
      view = view;
      made = IsMadeBy-last journal next (made desc journal key) (is_key-itself key)
          (sym (version-view desc (with_entry journal next) key view)
          ∙ version-Install desc journal next key view (is_key-itself key));
    }

-- what may be installed still may after an entry that does not install it
pub MayInstall-push : (desc : DescOf) (journal : List Entry) (next : Entry) (key : Key) (at : ℕ)
    → MayInstall desc journal key at → installs key next ≡ false
    → MayInstall desc (with_entry journal next) key at
MayInstall-push desc journal next key at may other =
    let same : take at (with_entry journal next) ≡ take at journal =
    take-append-le at journal (next ∷ []) may.past in
    record {
      part = may.part;
      past = omega (arith, may.past, length_push journal next);
      stale = ap (λ (before : List Entry). is_stale desc before key) same ∙ may.stale;
      ready = ap (λ (before : List Entry). list_all (is_settled desc before) (sources_of desc key))
          same
          ∙ may.ready;
      alone = ap (λ (since : List Entry). list_any (installs key) since)
          (drop-append-le at journal (next ∷ []) may.past)
          ∙ list_any-append (installs key) (drop at journal) (next ∷ [])
          ∙ rw (may.alone, other) refl;
    }
