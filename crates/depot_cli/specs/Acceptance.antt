-- What a reading that serves has, so that the laws of descriptions and journals speak of its run.
use Rattle.std.specs.Prelude.{ℕ, ◌≡◌, List, []}
use Rattle.desc_types.specs.Descriptions.{DescOf}
use Rattle.desc_types.specs.Accepted.{IsAccepted as IsAcceptedDesc}
use Rattle.desc_types.specs.Served.{IsServed}
use Rattle.view_meaning.specs.Journal.{FitsJournal}
use Rattle.depot_cli.specs.Reading.{Serving, Session, reading}
use Rattle.depot_cli.specs.SerialJournal.{serial}

-- the description is accepted, so it is served, and the journal that the items of the session make
-- fits it
pub record IsAccepted (desc : DescOf) (session : Session) : Type 0 where
  pub accepted : IsAcceptedDesc desc
  pub served : IsServed desc
  pub fits : FitsJournal desc (serial desc [] session.items)

-- so it is with each reading that serves
abbrev pub HasAcceptedReadings : Type 0
HasAcceptedReadings = (input : List ℕ) (desc : DescOf) (session : Session)
    → reading input ≡ Serving desc session → IsAccepted desc session
