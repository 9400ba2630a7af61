-- How often a partition is claimed.
use Rattle.std.specs.Prelude.{ℕ, ◌≡◌, ◌≢◌, List, [], ◌∷◌, None, Some, All, IsSomeAnd, ⊤}
use Rattle.desc_types.specs.declared.table.Key.{Key}
use Rattle.desc_types.specs.Descriptions.{DescOf}
use Rattle.desc_types.specs.Sources.{HasEarlierSources}
use Rattle.view_meaning.specs.declared.journal.Entry.TheVariants as entry
use Rattle.machine_meaning.specs.declared.claim.Claim.{Claim}
use Rattle.machine_meaning.specs.Events.{Event, Loads, Claims, Installs, Abandons, Pins, Unpins}
use Rattle.machine_meaning.specs.Events.{Reclaims, Stops, Step, claim_at}
use Rattle.machine_meaning.specs.States.{IsGood, IsReady, State}

-- an event loads nothing, and no claim of the partition is given up or ended by a stop
abbrev pub IsQuiet : Key → State → Event → Type 0
IsQuiet key old (Loads _) = ⊥
IsQuiet key old (Claims _ _) = ⊤
IsQuiet key old (Installs _ _) = ⊤
IsQuiet key old (Abandons _ id) =
    IsSomeAnd (claim_at id old.claims) (λ claim. claim.key ≢ key)
IsQuiet key old (Pins _ _) = ⊤
IsQuiet key old (Unpins _ _) = ⊤
IsQuiet key old (Reclaims _) = ⊤
IsQuiet key old (Stops None) = All (λ (claim : Claim). claim.key ≢ key) old.claims
IsQuiet key old (Stops (Some (entry.Load _))) = ⊥
IsQuiet key old (Stops (Some (entry.Install _ _))) =
    All (λ (claim : Claim). claim.key ≢ key) old.claims

-- such events lead from one state to another, one by one
abbrev pub QuietRun : DescOf → Key → State → List Event → State → Type 0
QuietRun desc key old [] new = new ≡ old
QuietRun desc key old (event ∷ later) new = (mid : State) × Step desc old event mid
    × IsQuiet key old event × QuietRun desc key mid later new

-- what was claimed is not ready again before a load, unless a claim of it was given up, or ended by
-- a stop
abbrev pub HasOneClaim : Type 0
HasOneClaim = (desc : DescOf) (old mid new : State) (who : ℕ) (key : Key) (events : List Event)
    → HasEarlierSources desc → IsGood desc old → Step desc old (Claims who key) mid
    → QuietRun desc key mid events new → IsReady desc new key → ⊥
