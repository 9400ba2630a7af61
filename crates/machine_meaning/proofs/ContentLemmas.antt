-- What a version is stays as it is, and a held version is its view's value from scratch.
use Rattle.std.proofs.Common.{List, Some, [], ap, append_assoc, arith, drop, get_or, inl, inr}
use Rattle.std.proofs.Common.{length, length-append, refl, subst, suc, sym, take, true, ℕ, ◌++◌}
use Rattle.std.proofs.Common.{◌+◌, ◌-◌, ◌∙◌, ◌∷◌, ◌≡◌, ◌≤◌}
use Rattle.std.specs.Prelude.{IfSome, IsSomeAnd, Option, slice_get}
use Rattle.std.proofs.lemmas.List.{get_or_at, take-append-drop, take_at, take_more}
use Rattle.std.proofs.lemmas.Option.{get_or_from_slice_get, slice_get_cases, slice_get_within}
use Rattle.desc_types.specs.declared.table.Key.{Key}
use Rattle.desc_types.specs.Descriptions.{DescOf}
use Rattle.desc_types.specs.Sources.{HasEarlierSources}
use Rattle.view_meaning.specs.declared.journal.Entry.{Entry}
use Rattle.view_meaning.specs.Contents.{content}
use Rattle.view_meaning.specs.Journal.{accepted}
use Rattle.view_meaning.specs.LegalJournals.{IsLegal}
use Rattle.view_meaning.specs.Values.{value}
use Rattle.view_meaning.specs.Versions.{install_places, installs, nth_place, place_of, version}
use Rattle.view_meaning.proofs.GrowLemmas.{content_within-take}
use Rattle.view_meaning.proofs.InstallValueLemmas.{install_values}
use Rattle.view_meaning.proofs.VersionLemmas.{install_places-append, version-take-le, version-view}
use Rattle.query_pin.specs.declared.input.Input.{Input}
use Rattle.machine_meaning.specs.Contents.{HasHeldValues, HasStableContents}
use Rattle.machine_meaning.specs.Events.{made}
use Rattle.machine_meaning.specs.States.{IsMadeBy, MayBeHeld}

-- the content of a version stays as it is while a legal journal goes on
pub stable_contents : HasStableContents
stable_contents desc journal more key number legal known =
    let front : take (length journal) (journal ++ more) ≡ journal =
    take_at journal more (length journal) refl in
    content_within-take (suc key.table) desc (length journal) (journal ++ more) key number legal
    (omega (arith, known, ap (λ (before : List Entry). version desc before key) front))
    ∙ ap (λ (before : List Entry). content desc before key number) front

-- the place of an install is found by the number of those before it
nth_place-append : (before later : List Entry) (last : Entry) (key : Key) (number : ℕ)
    → installs key last ≡ true → length (install_places before key) ≡ number
    → nth_place ((before ++ last ∷ []) ++ later) key number ≡ place_of last
nth_place-append before later last key number same many =
    let one : install_places (last ∷ []) key ≡ place_of last ∷ [] = rw same refl in
    ap (λ (places : List ℕ). get_or places number 0)
    (install_places-append (before ++ last ∷ []) later key
    ∙ ap (λ (places : List ℕ). places ++ install_places later key)
    (install_places-append before (last ∷ []) key
    ∙ ap (λ (places : List ℕ). install_places before key ++ places) one)
    ∙ append_assoc (install_places before key) (place_of last ∷ []) (install_places later key))
    ∙ get_or_at (install_places before key) (place_of last) (install_places later key) 0 number many

-- entries up to one are those before it, and that one
take-slice_get : (journal : List Entry) (entry : ℕ) (last : Entry) → 1 ≤ entry
    → slice_get journal (entry - 1) ≡ Some last
    → take entry journal ≡ take (entry - 1) journal ++ last ∷ []
take-slice_get journal entry last some there =
    ap (λ (count : ℕ). take count journal) (omega (arith, some))
    ∙ take_more journal (entry - 1) last (slice_get_within journal (entry - 1) last there)
    ∙ ap (λ (read : Entry). take (entry - 1) journal ++ read ∷ [])
    (get_or_from_slice_get journal (entry - 1) last last there)

-- the entry that made a version installs its partition
installs-made : (journal : List Entry) (made : Input) (entry : ℕ) (last : Entry)
    → IsMadeBy journal made entry → slice_get journal (entry - 1) ≡ Some last
    → installs made.key last ≡ true
installs-made journal made entry last is there =
    subst (λ (found : Option Entry). IfSome found (λ last. installs made.key last ≡ true)) there
    is.there

-- one install fewer stands before it than the version counts
length-made : (journal : List Entry) (made : Input) (entry : ℕ) (last : Entry)
    → IsMadeBy journal made entry → slice_get journal (entry - 1) ≡ Some last
    → length (install_places (take (entry - 1) journal) made.key) + 1 ≡ made.version
length-made journal made entry last is there =
    let before = take (entry - 1) journal in
    let one : length (install_places (last ∷ []) made.key) ≡ 1 =
    rw (installs-made journal made entry last is there) refl in
    omega (
      arith,
      one,
      is.number,
      ap (λ (front : List Entry). length (install_places front made.key))
          (take-slice_get journal entry last is.some there),
      ap length (install_places-append before (last ∷ []) made.key),
      length-append (install_places before made.key) (install_places (last ∷ []) made.key),
    )

-- so the install is found by the number of the version
nth_place-made : (journal : List Entry) (made : Input) (entry : ℕ) (last : Entry)
    → IsMadeBy journal made entry → slice_get journal (entry - 1) ≡ Some last
    → nth_place journal made.key (made.version - 1) ≡ place_of last
nth_place-made journal made entry last is there =
    ap (λ (all : List Entry). nth_place all made.key (made.version - 1))
    (sym (take-append-drop entry journal)
    ∙ ap (λ (front : List Entry). front ++ drop entry journal)
    (take-slice_get journal entry last is.some there))
    ∙ nth_place-append (take (entry - 1) journal) (drop entry journal) last made.key
    (made.version - 1) (installs-made journal made entry last is there)
    (omega (arith, length-made journal made entry last is there))

-- it is among the installs of the whole journal
version-made-le : (desc : DescOf) (journal : List Entry) (made : Input) (entry : ℕ)
    → MayBeHeld desc journal made entry → made.version ≤ length (install_places journal made.key)
version-made-le desc journal made entry may =
    omega (
      arith,
      may.made.number,
      version-view desc (take entry journal) made.key may.view,
      version-view desc journal made.key may.view,
      version-take-le desc entry journal made.key,
    )

-- the content of a version that an install made is the value up to its place
content-made : (desc : DescOf) (journal : List Entry) (made : Input) (entry : ℕ) (last : Entry)
    → HasEarlierSources desc → IsLegal desc journal → MayBeHeld desc journal made entry
    → slice_get journal (entry - 1) ≡ Some last
    → content desc journal made.key made.version
    ≡ value desc (accepted (take (place_of last) journal)) made.key
content-made desc journal made entry last earlier legal may there =
    let some : made.version ≡ suc (made.version - 1) =
    omega (arith, length-made journal made entry last may.made there) in
    ap (content desc journal made.key) some
    ∙ install_values desc journal made.key (made.version - 1) earlier legal
    (omega (arith, some, version-made-le desc journal made entry may))
    ∙ ap (λ (place : ℕ). value desc (accepted (take place journal)) made.key)
    (nth_place-made journal made entry last may.made there)

-- the entry that made a version is there
IsSomeAnd-made : (P : Entry → Type 0) (journal : List Entry) (made : Input) (entry : ℕ)
    → IsMadeBy journal made entry
    → ((last : Entry) → slice_get journal (entry - 1) ≡ Some last → P last)
    → IsSomeAnd (slice_get journal (entry - 1)) P
IsSomeAnd-made P journal made entry is follows =
    elim ((slice_get_cases journal (entry - 1)).1) [
      | inl inside ↦ subst (λ (found : Option Entry). IsSomeAnd found P) (sym inside.2)
          (follows inside.0 inside.2)
      | inr past ↦ absurd (omega (arith, past.0, is.some, is.past))
    ]

-- in a good state the content of a held version is its view's value from scratch
pub held_values : HasHeldValues
held_values desc state read entry earlier good held =
    let may : MayBeHeld desc state.journal read entry =
    subst (λ (found : Option ℕ). IfSome found (MayBeHeld desc state.journal read)) held
    (good.held.made read) in
    IsSomeAnd-made
    (λ install. content desc state.journal read.key read.version
    ≡ value desc (accepted (take (place_of install) state.journal)) read.key)
    state.journal read entry may.made
    (λ last there. content-made desc state.journal read entry last earlier good.legal may there)
