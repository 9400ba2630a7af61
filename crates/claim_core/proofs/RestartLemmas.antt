-- Restarting: the core of a journal and an install is found (`IsFound-install`) and sound
-- (`IsSound-restored`), and so is that of all entries, one after the other (`HasRestored`).
use Rattle.std.proofs.Common.{◌≡◌, ◌∙◌, ◌++◌, ◌∷◌, ℕ, List, [], ap, arith, length}
use Rattle.std.proofs.Common.{append_assoc, subst, sym, take}
use Rattle.std.proofs.lemmas.List.Elements.{All-tail}
use Rattle.std.specs.Prelude.{All}
use Rattle.std.proofs.lemmas.List.{append-nil}
use Rattle.desc_types.specs.declared.table.Key.{Key}
use Rattle.desc_types.specs.Descriptions.{DescOf}
use Rattle.view_meaning.specs.declared.journal.Entry.{Entry}
use Rattle.view_meaning.specs.declared.journal.Entry.TheVariants as entry
use Rattle.view_meaning.specs.Journal.{FitsEntry, FitsJournal, accepted}
use Rattle.view_meaning.specs.LegalJournals.{IsLegal, MayAllFollow, MayFollow, MayInstall}
use Rattle.view_meaning.proofs.FitLemmas.{FitsJournal-push}
use Rattle.view_meaning.proofs.JournalLemmas.{accepted-append}
use Rattle.view_meaning.proofs.LegalLemmas.{IsLegal-push, is_raw-stale}
use Rattle.raw_load.specs.Books.{deliveries_of}
use Rattle.stale_test.specs.Books.{TellsStale}
use Rattle.machine_meaning.specs.Events.{found, with_entry}
use Rattle.machine_meaning.specs.States.{State}
use Rattle.machine_meaning.proofs.GoodLemmas.{good_starts}
use Rattle.claim_core.specs.Cores.{CoreOf, HoldsInstead, IsFound, IsSound}
use Rattle.claim_core.specs.declared.step.Step.{Step as StepOf}
use Rattle.claim_core.specs.declared.step.Step.TheVariants.{Install}
use Rattle.claim_core.proofs.JournalViewLemmas.{AreSteps-install}
use Rattle.claim_core.proofs.LatestLemmas.{HoldsLatest-install, made_entry, with_install_at}
use Rattle.claim_core.proofs.PlaceLemmas.{placed-install}

-- what a restart changes of a core by an install: the version that it makes is held in place of the
-- one before
pub record RestoresInstall (old new : CoreOf) (key : Key) (at : ℕ) : Type 0 where
  pub desc : new.desc ≡ old.desc
  pub state : new.state ≡ found (with_install_at old.state.journal key at) new.state.held
  pub held : HoldsInstead old.state.held new.state.held (made_entry old.desc old.state.journal key)
  pub raw : new.raw ≡ old.raw
  pub marks : new.marks ≡ old.marks
  pub stale : TellsStale old.desc (with_install_at old.state.journal key at) new.stale

-- so the core of a journal with an install at its end is found
pub IsFound-install : (old new : CoreOf) (key : Key) (at : ℕ)
    → IsFound old.desc old.state.journal old → FitsEntry old.desc (entry.Install key at)
    → MayInstall old.desc old.state.journal key at → RestoresInstall old new key at
    → IsFound old.desc (with_install_at old.state.journal key at) new
IsFound-install old new key at found fits may restores =
    let next = entry.Install key at in
    let journal : List Entry = old.state.journal in
    let holds = HoldsLatest-install old.desc journal key at old.state.held new.state.held
    (is_raw-stale old.desc (take at journal) key may.stale) found.held restores.held in
    record {
      served = restores.desc;
      state = restores.state;
      held = holds;
      good = rw restores.state (good_starts old.desc (with_entry journal next) new.state.held
          (FitsJournal-push old.desc journal next found.good.fits fits)
          (IsLegal-push old.desc journal next found.good.legal may) holds);
    }

-- and it is sound
pub IsSound-restored : (old new : CoreOf) (steps : List StepOf) (key : Key) (at : ℕ)
    → IsSound old steps → IsFound old.desc (with_install_at old.state.journal key at) new
    → RestoresInstall old new key at → IsSound new (steps ++ Install key at ∷ [])
IsSound-restored old new steps key at sound found restores =
    let same : accepted (with_install_at old.state.journal key at) ≡ accepted old.state.journal =
    accepted-append old.state.journal (entry.Install key at ∷ [])
    ∙ append-nil (accepted old.state.journal) in
    record {
      loads = rw restores.raw
          (AreSteps-install steps (deliveries_of old.raw.told) key at sound.loads);
      placed = rw restores.raw (placed-install steps old.raw.told.loads key at sound.placed);
      good = rw restores.desc found.good;
      raw = rw (restores.desc, restores.raw) sound.raw;
      marks = rw (restores.desc, restores.state, same, restores.marks) sound.marks;
      stale = rw (restores.desc, restores.state) restores.stale;
    }

-- how far a restart came: the core is that of the entries so far, and others are left
pub record HasRestored (desc : DescOf) (entries past rest : List Entry) (core : CoreOf) : Type 0 where
  pub whole : past ++ rest ≡ entries
  pub found : IsFound desc past core

-- so it is the core of its own journal
pub IsFound-own : (desc : DescOf) (entries past rest : List Entry) (core : CoreOf)
    → HasRestored desc entries past rest core → IsFound core.desc core.state.journal core
IsFound-own desc entries past rest core restored =
    let journal : core.state.journal ≡ past =
    ap (λ (state : State). state.journal) restored.found.state in
    subst (λ (journal : List Entry). IsFound core.desc journal core) (sym journal)
    (subst (λ (desc : DescOf). IsFound desc past core) (sym restored.found.served) restored.found)

-- what is true of each element is true of one among others
All-among : {X : Type 0} (P : X → Type 0) (xs : List X) (x : X) (ys : List X)
    → All P (xs ++ x ∷ ys) → P x
All-among P [] x ys all = all 0 x (omega arith)
All-among P (first ∷ xs) x ys all = All-among P xs x ys (All-tail P first (xs ++ x ∷ ys) all)

-- the next entry fits
pub FitsEntry-next : (desc : DescOf) (entries past rest : List Entry) (next : Entry) (core : CoreOf)
    → HasRestored desc entries past (next ∷ rest) core → FitsJournal desc entries
    → FitsEntry core.desc next
FitsEntry-next desc entries past rest next core restored fits =
    rw restored.found.served (All-among (FitsEntry desc) past next rest
    (subst (FitsJournal desc) (sym restored.whole) fits))

-- of entries that may follow one by one each may follow those before it
MayFollow-among : (desc : DescOf) (journal past : List Entry) (next : Entry) (rest : List Entry)
    → MayAllFollow desc journal (past ++ next ∷ rest) → MayFollow desc (journal ++ past) next
MayFollow-among desc journal [] next rest may =
    subst (λ (journal : List Entry). MayFollow desc journal next) (sym (append-nil journal)) may.0
MayFollow-among desc journal (first ∷ past) next rest may =
    subst (λ (journal : List Entry). MayFollow desc journal next)
    (append_assoc journal (first ∷ []) past)
    (MayFollow-among desc (journal ++ first ∷ []) past next rest may.1)

-- and it may follow
pub MayFollow-next : (desc : DescOf) (entries past rest : List Entry) (next : Entry) (core : CoreOf)
    → HasRestored desc entries past (next ∷ rest) core → IsLegal desc entries
    → MayFollow core.desc core.state.journal next
MayFollow-next desc entries past rest next core restored legal =
    let journal : core.state.journal ≡ past =
    ap (λ (state : State). state.journal) restored.found.state in
    rw (restored.found.served, journal) (MayFollow-among desc [] past next rest
    (subst (IsLegal desc) (sym restored.whole) legal))

-- after it is restored the restart came one entry further
pub HasRestored-step : (desc : DescOf) (entries past rest : List Entry) (next : Entry)
    (core new : CoreOf) → HasRestored desc entries past (next ∷ rest) core
    → IsFound core.desc (with_entry core.state.journal next) new
    → HasRestored desc entries (past ++ next ∷ []) rest new
HasRestored-step desc entries past rest next core new restored found =
    let journal : core.state.journal ≡ past =
    ap (λ (state : State). state.journal) restored.found.state in
    record {
      whole = append_assoc past (next ∷ []) rest ∙ restored.whole;
      found = rw (restored.found.served, journal) at found;
    }

-- at the end it is the core of all entries
pub IsFound-all : (desc : DescOf) (entries past rest : List Entry) (core : CoreOf)
    → HasRestored desc entries past rest core → length rest ≡ 0 → IsFound desc entries core
IsFound-all desc entries past [] core restored none =
    subst (λ (entries : List Entry). IsFound desc entries core)
    (sym (append-nil past) ∙ restored.whole) restored.found
IsFound-all desc entries past (next ∷ rest) core restored none = absurd (omega (arith, none))
