-- That a drain comes to its end.
use Rattle.std.specs.Prelude.{ℕ, ◌≡◌, ◌<◌, [], IfSome, length, not, filter, slice_get}
use Rattle.desc_types.specs.declared.table.Key.{Key}
use Rattle.desc_types.specs.Descriptions.{DescOf}
use Rattle.desc_types.specs.Sources.{HasEarlierSources}
use Rattle.view_meaning.specs.Drains.{unsettled}
use Rattle.view_meaning.specs.Partitions.{is_key}
use Rattle.machine_meaning.specs.Events.{Claims, Installs, IsClaimOf, Step}
use Rattle.machine_meaning.specs.States.{IsGood, IsReady, State}
use Rattle.machine_meaning.specs.declared.claim.Claim.{Claim}

-- if nothing is claimed, the first partition that is not settled is ready
abbrev pub HasReadyFirst : Type 0
HasReadyFirst = (desc : DescOf) (state : State) → HasEarlierSources desc → IsGood desc state
    → state.claims ≡ []
    → IfSome (slice_get (unsettled desc state.journal) 0) (IsReady desc state)

-- who claims a ready partition and installs it at once leaves unsettled what was so before, except
-- that partition, and so one fewer
pub record Settles (desc : DescOf) (old new : State) (key : Key) : Type 0 where
  pub others : unsettled desc new.journal
      ≡ filter (λ other. not (is_key key other)) (unsettled desc old.journal)
  pub fewer : length (unsettled desc new.journal) < length (unsettled desc old.journal)

abbrev pub HasProgress : Type 0
HasProgress = (desc : DescOf) (old mid new : State) (who id : ℕ) (claim : Claim)
    → HasEarlierSources desc → IsGood desc old → Step desc old (Claims who claim.key) mid
    → IsClaimOf mid who id claim → Step desc mid (Installs who id) new
    → Settles desc old new claim.key
