-- Which latest install the entry with a number is, if it is one: by its body, and by the versions
-- that are held.
use Rattle.std.proofs.Common.{◌≡◌, ◌∙◌, ◌<◌, ℕ, zero, suc, List, Some, None, arith, refl}
use Rattle.std.proofs.Common.{ap, subst, sym}
use Rattle.std.specs.Prelude.{⊤, Option, Result, Ok, Err, slice_get, if◌then◌else◌}
use Rattle.row_codec.specs.declared.body.Body.{Body}
use Rattle.row_codec.specs.declared.body.Body.TheVariants as body
use Rattle.row_codec.specs.Bodies.{read_body}
use Rattle.row_codec.specs.declared.fault.CodecFault.{CodecFault}
use Rattle.row_codec.specs.declared.fault.CodecFault.TheVariants.{At, Memory}
use Rattle.row_codec.specs.Answers.{Tells}
use Rattle.row_codec.proofs.CodecLemmas.{same_Ok}
use Rattle.std.specs.Result.{is_ok}
use Rattle.std.proofs.lemmas.Bool.{false≢true}
use Rattle.claim_core.specs.Cores.{CoreOf}
use Rattle.view_meaning.specs.declared.journal.Entry.{Entry}
use Rattle.view_meaning.specs.declared.journal.Entry.TheVariants as entry
use Rattle.depot_recovery.specs.declared.shelving.Latest.{Latest}
use Rattle.depot_recovery.specs.Depots.{body_of, is_latest}
use Rattle.depot_recovery.specs.Found.{lengths_in}
use Rattle.depot_recovery.specs.Latest.{IsInstallAt}
use Rattle.depot_recovery.specs.Replaying.{IsReplayOf, depot_by}
use Rattle.depot_recovery.specs.Shelving.{latest_in, latest_of}
use Rattle.depot_recovery.proofs.ShelveLemmas.{StandsAt, StandsAt-bodies, StandsAt-read}

-- what a body says of its entry
abbrev latest_by : List Entry → (number : ℕ) → Body → Option Latest
latest_by journal number (body.Load len) = None
latest_by journal number (body.Install key at len) =
    if is_latest journal number key then Some (record { key = key; len = len }) else None

latest_by-of : (journal : List Entry) (number len : ℕ) (next : Entry)
    → latest_by journal number (body_of next len) ≡ latest_of journal number len next
latest_by-of journal number len (entry.Load delivery) = refl
latest_by-of journal number len (entry.Install key at) = refl

-- an install has the number of its body
abbrev IsInstallBy : List Entry → (number : ℕ) → Body → Type 0
IsInstallBy journal number (body.Load len) = ⊤
IsInstallBy journal number (body.Install key at len) = IsInstallAt journal key number

IsInstallBy-of : (journal : List Entry) (place len : ℕ) (next : Entry)
    → slice_get journal place ≡ Some next → IsInstallBy journal (suc place) (body_of next len)
IsInstallBy-of journal place len (entry.Load delivery) there = tt
IsInstallBy-of journal place len (entry.Install key at) there = (place, at, refl, there)

-- what is read at a number
pub record IsReadAt (bodies : List (List ℕ)) (core : CoreOf) (number : ℕ) (stated : Body)
    : Type 0 where
  pub latest : latest_in (depot_by bodies core) number
      ≡ latest_by core.state.journal number stated
  pub install : IsInstallBy core.state.journal number stated

IsReadAt-stands : (bodies : List (List ℕ)) (core : CoreOf) (place : ℕ) (bytes : List ℕ)
    (stated : Body) → StandsAt core.state.journal (lengths_in bodies) place bytes
    → read_body bytes ≡ Ok stated → IsReadAt bodies core (suc place) stated
IsReadAt-stands bodies core place bytes stated stands read =
    let journal = core.state.journal in
    let same : body_of stands.next stands.len ≡ stated =
    same_Ok (sym (StandsAt-read journal (lengths_in bodies) place bytes stands) ∙ read) in
    record {
      latest = rw (stands.there, stands.stated)
          (sym (latest_by-of journal (suc place) stands.len stands.next)
          ∙ ap (latest_by journal (suc place)) same);
      install = subst (IsInstallBy journal (suc place)) same
          (IsInstallBy-of journal place stands.len stands.next stands.there);
    }

-- each body after the first is read as what stands at its number
stands_at : (bodies : List (List ℕ)) (core : CoreOf) (place : ℕ) (bytes : List ℕ)
    → IsReplayOf bodies core → slice_get bodies (suc place) ≡ Some bytes
    → StandsAt core.state.journal (lengths_in bodies) place bytes
stands_at bodies core place bytes replayed there =
    StandsAt-bodies core.desc core.state.journal (lengths_in bodies) place bytes
    replayed.made.written
    (sym (ap (λ (all : List (List ℕ)). slice_get all (suc place)) replayed.spelled) ∙ there)

pub IsReadAt-body : (bodies : List (List ℕ)) (core : CoreOf) (number : ℕ) (bytes : List ℕ)
    (stated : Body) → IsReplayOf bodies core → 0 < number
    → slice_get bodies number ≡ Some bytes → read_body bytes ≡ Ok stated
    → IsReadAt bodies core number stated
IsReadAt-body bodies core zero bytes stated replayed some there read = absurd (omega (arith, some))
IsReadAt-body bodies core (suc place) bytes stated replayed some there read =
    IsReadAt-stands bodies core place bytes stated
    (stands_at bodies core place bytes replayed there) read

-- and it can be read
Tells-read : (fault : CodecFault) (reading : Result Body ℕ) (stated : Body)
    → reading ≡ Ok stated → Tells (Err fault) reading → ⊥
Tells-read (At place) reading stated read told = false≢true (sym (ap is_ok told) ∙ ap is_ok read)
Tells-read Memory reading stated read told = told

pub read_body-fine : (bodies : List (List ℕ)) (core : CoreOf) (number : ℕ) (bytes : List ℕ)
    (fault : CodecFault) → IsReplayOf bodies core → 0 < number
    → slice_get bodies number ≡ Some bytes → Tells (Err fault) (read_body bytes) → ⊥
read_body-fine bodies core zero bytes fault replayed some there told = omega (arith, some)
read_body-fine bodies core (suc place) bytes fault replayed some there told =
    let stands = stands_at bodies core place bytes replayed there in
    Tells-read fault (read_body bytes) (body_of stands.next stands.len)
    (StandsAt-read core.state.journal (lengths_in bodies) place bytes stands) told
