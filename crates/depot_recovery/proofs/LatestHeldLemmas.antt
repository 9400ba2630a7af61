-- The versions that are held are those of the latest installs.
use Rattle.std.proofs.Common.{◌≡◌, ◌∙◌, ◌-◌, ◌<◌, ◌≤◌, ℕ, zero, suc, List, [], ◌∷◌, Some, None, arith}
use Rattle.std.proofs.Common.{ap, inl, inr, length, refl, subst, sym, true, nat_eq}
use Rattle.std.specs.Prelude.{◌⊎◌, false, IfSome, IsSome, Option, is_some, slice_get, unwrap_or, if◌then◌else◌}
use Rattle.std.proofs.lemmas.Bool.{cases_Bool, eqb-true, false≢true}
use Rattle.std.proofs.lemmas.Bool.Decides.{nat_tests}
use Rattle.std.proofs.lemmas.Option.{none-some, same_Some}
use Rattle.claim_core.specs.Cores.{CoreOf, IsFound}
use Rattle.desc_types.specs.declared.table.Key.{Key}
use Rattle.query_pin.specs.declared.input.Input.{Input}
use Rattle.query_pin.specs.Kept.{entry_in}
use Rattle.machine_meaning.specs.States.{IsMadeBy, MayBeHeld, latest}
use Rattle.view_meaning.specs.declared.journal.Entry.{Entry}
use Rattle.view_meaning.specs.declared.journal.Entry.TheVariants as entry
use Rattle.view_meaning.specs.Versions.{installs}
use Rattle.view_meaning.proofs.AmongLemmas.{is_key-same}
use Rattle.depot_recovery.specs.declared.shelving.Latest.{Latest}
use Rattle.depot_recovery.specs.Depots.{DepotOf, is_latest}
use Rattle.depot_recovery.specs.Latest.{IsInstallAt, IsLastInstall}
use Rattle.depot_recovery.specs.Shelving.{latest_in, latest_or}
use Rattle.depot_recovery.proofs.LastInstallLemmas.{IsLastInstall-told, is_latest-last}

-- what stands at a place of a list
pub place_there : {X : Type 0} (xs : List X) (place : ℕ) → place < length xs
    → (x : X) × (slice_get xs place ≡ Some x)
place_there [] place below = absurd (omega (arith, below))
place_there (x ∷ xs) zero below = (x, refl)
place_there (x ∷ xs) (suc place) below = place_there xs place (omega (arith, below))

-- an entry with a number is the latest install of a partition
pub record IsHeldAt (journal : List Entry) (key : Key) (number : ℕ) : Type 0 where
  pub some : 0 < number
  pub past : number ≤ length journal
  pub install : IsInstallAt journal key number
  pub latest : is_latest journal number key ≡ true

-- an entry that installs a partition is an install of it
IsInstallAt-installs : (journal : List Entry) (key : Key) (place : ℕ) (next : Entry)
    → slice_get journal place ≡ Some next → installs key next ≡ true
    → IsInstallAt journal key (suc place)
IsInstallAt-installs journal key place (entry.Load delivery) there same = absurd (false≢true same)
IsInstallAt-installs journal key place (entry.Install other at) there same = (
  place,
  at,
  refl,
  subst (λ (key : Key). slice_get journal place ≡ Some (entry.Install key at))
      (is_key-same key other same) there,
)

-- so the entry that made a version is one
IsInstallAt-made : (journal : List Entry) (read : Input) (number : ℕ)
    → IsMadeBy journal read number → IsInstallAt journal read.key number
IsInstallAt-made journal read zero made = absurd (omega (arith, made.some))
IsInstallAt-made journal read (suc place) made =
    let next = place_there journal place (omega (arith, made.past)) in
    let before : suc place - 1 ≡ place = omega arith in
    let same : slice_get journal (suc place - 1) ≡ Some next.0 =
    ap (slice_get journal) before ∙ next.1 in
    IsInstallAt-installs journal read.key place next.0 next.1
    (subst (λ (found : Option Entry). IfSome found (λ last. installs read.key last ≡ true)) same
    made.there)

-- each version that is held was made by the latest install of its partition
pub IsHeldAt-held : (core : CoreOf) (read : Input) (number : ℕ)
    → IsFound core.desc core.state.journal core → entry_in core.state.held read ≡ Some number
    → IsHeldAt core.state.journal read.key number
IsHeldAt-held core read number found held =
    let journal = core.state.journal in
    let some : IsSome (entry_in core.state.held read) = ap is_some held in
    let last = (found.held.others read some).last in
    let newest : read ≡ latest core.desc journal read.key =
    λ i. record { key = read.key; version = last i } in
    let may : MayBeHeld core.desc journal read number =
    subst (λ (told : Option ℕ). IfSome told (MayBeHeld core.desc journal read)) held
    (found.good.held.made read) in
    let install = IsInstallAt-made journal read number may.made in
    let exact : IsLastInstall journal read.key number =
    IsLastInstall-told core.desc core.state read.key (Some number) found.good
    (ap (entry_in core.state.held) (sym newest) ∙ held) in
    let same : nat_eq number number ≡ true = grind (arith, nat_tests) in record {
      some = may.made.some;
      past = may.made.past;
      install = install;
      latest = sym (is_latest-last journal read.key number number install exact) ∙ same;
    }

-- so it is what the entry with its number is
latest_or-install : (journal : List Entry) (key : Key) (number len : ℕ) (found : Option Entry)
    (place at : ℕ) → found ≡ Some (entry.Install key at)
    → is_latest journal number key ≡ true
    → latest_or journal number found (Some len) ≡ Some (record { key = key; len = len })
latest_or-install journal key number len found place at is latest = rw (is, latest) refl

pub latest_in-held : (depot : DepotOf) (core : CoreOf) (read : Input) (place len : ℕ)
    → IsFound core.desc core.state.journal core → depot.entries ≡ core.state.journal
    → entry_in core.state.held read ≡ Some (suc place) → slice_get depot.lengths place ≡ Some len
    → latest_in depot (suc place) ≡ Some (record { key = read.key; len = len })
latest_in-held depot core read place len found same held stated =
    let here = IsHeldAt-held core read (suc place) found held in
    let at = here.install in
    let there : slice_get core.state.journal place ≡ Some (entry.Install read.key at.1) =
    ap (slice_get core.state.journal) (omega (arith, at.2)) ∙ at.3 in
    rw (same, stated)
    (latest_or-install core.state.journal read.key (suc place) len
    (slice_get core.state.journal place) place at.1 there here.latest)

-- and the other way round: what the latest install of a partition made is held
IsHeldAt-or : (journal : List Entry) (place : ℕ) (found : Option Entry) (len : Option ℕ)
    (known : Latest) → slice_get journal place ≡ found
    → latest_or journal (suc place) found len ≡ Some known
    → IsInstallAt journal known.key (suc place) × (is_latest journal (suc place) known.key ≡ true)
IsHeldAt-or journal place None len known there is = absurd (none-some known is)
IsHeldAt-or journal place (Some next) None known there is = absurd (none-some known is)
IsHeldAt-or journal place (Some (entry.Load delivery)) (Some len) known there is =
    absurd (none-some known is)
IsHeldAt-or journal place (Some (entry.Install key at)) (Some len) known there is =
    by_test (cases_Bool (is_latest journal (suc place) key))
  where
    by_test : (is_latest journal (suc place) key ≡ true) ⊎ (is_latest journal (suc place) key ≡ false)
        → IsInstallAt journal known.key (suc place)
        × (is_latest journal (suc place) known.key ≡ true)
    by_test (inl latest) =
        let same : key ≡ known.key = ap (λ (known : Latest). known.key)
        (same_Some (record { key = key; len = len }) known
        (sym (ap (λ test. if test then Some (record { key = key; len = len }) else None) latest)
        ∙ is)) in (
          (place, at, refl, there ∙ ap (λ (key : Key). Some (entry.Install key at)) same),
          ap (is_latest journal (suc place)) (sym same) ∙ latest,
        )
    by_test (inr older) = absurd (none-some known
        (sym (ap (λ test. if test then Some (record { key = key; len = len }) else None) older)
        ∙ is))

told_same : (told : Option ℕ) (place : ℕ) → nat_eq (unwrap_or told 0) (suc place) ≡ true
    → told ≡ Some (suc place)
told_same None place same = absurd (omega (arith, eqb-true 0 (suc place) same))
told_same (Some number) place same = ap Some (eqb-true number (suc place) same)

pub held-latest_in : (depot : DepotOf) (core : CoreOf) (number : ℕ) (known : Latest)
    → IsFound core.desc core.state.journal core → depot.entries ≡ core.state.journal
    → latest_in depot number ≡ Some known
    → entry_in core.state.held (latest core.desc core.state.journal known.key) ≡ Some number
held-latest_in depot core zero known found same is = absurd (none-some known is)
held-latest_in depot core (suc place) known found same is =
    let journal = core.state.journal in
    let told = entry_in core.state.held (latest core.desc journal known.key) in
    let here = IsHeldAt-or journal place (slice_get journal place)
    (slice_get depot.lengths place) known refl
    (sym (ap (λ (entries : List Entry). latest_or entries (suc place) (slice_get entries place)
    (slice_get depot.lengths place)) same) ∙ is) in
    told_same told place
    (is_latest-last journal known.key (suc place) (unwrap_or told 0) here.0
    (IsLastInstall-told core.desc core.state known.key told found.good refl)
    ∙ here.1)
