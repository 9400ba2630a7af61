-- What a history that is played keeps beside its core.
use Rattle.std.specs.Prelude.{ℕ, ◌≡◌, ◌≢◌, All, List, Ok, Option, IfSome, IsSome}
use Rattle.view_meaning.specs.declared.journal.Entry.{Entry}
use Rattle.view_meaning.specs.Journal.{FitsJournal}
use Rattle.view_meaning.specs.LegalJournals.{IsLegal}
use Rattle.query_pin.specs.Pins.{AreInOrder, PinOf, pin_at}
use Rattle.machine_meaning.specs.declared.claim.Claim.{Claim}
use Rattle.claim_core.specs.Cores.{CoreOf}
use Rattle.table_desc.specs.Described.{described}

-- an id has a pin, and it is no claim's
pub record IsOpenPin (pins : List (ℕ × PinOf)) (claims : List Claim) (id : ℕ) : Type 0 where
  pub found : IsSome (pin_at pins id)
  pub unclaimed : All (λ (claim : Claim). claim.id ≢ id) claims

-- the core serves what the lines declare, it has just these entries and the last pin, and a core may
-- be made anew of its entries
pub record IsPlayed (core : CoreOf) (lines : List ℕ) (entries : List Entry)
    (pin : Option ℕ) : Type 0 where
  pub served : described lines ≡ Ok core.desc
  pub journal : core.state.journal ≡ entries
  pub last : IfSome pin (IsOpenPin core.state.pins core.state.claims)
  pub ordered : AreInOrder core.state.pins
  pub fits : FitsJournal core.desc core.state.journal
  pub legal : IsLegal core.desc core.state.journal
