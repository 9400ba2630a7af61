-- When a partition that is settled stays as it is.
use Rattle.std.specs.Prelude.{◌≡◌, List, ◌++◌, All, true, false}
use Rattle.desc_types.specs.declared.table.Key.{Key}
use Rattle.desc_types.specs.Deliveries.{DeliveryOf}
use Rattle.desc_types.specs.Descriptions.{DescOf}
use Rattle.desc_types.specs.Sources.{HasEarlierSources}
use Rattle.view_meaning.specs.declared.journal.Entry.{Entry}
use Rattle.view_meaning.specs.Journal.{accepted}
use Rattle.view_meaning.specs.Versions.{touches, version}
use Rattle.view_meaning.specs.Values.{value}
use Rattle.view_meaning.specs.Staleness.{is_settled}
use Rattle.view_meaning.specs.LegalJournals.{IsLegal}
use Rattle.view_meaning.specs.Closing.{is_closed_in}
use Rattle.view_meaning.specs.RawBelow.{raw_below}

-- a partition that was settled stays so, with its version and its rows
pub record StaysSettled (desc : DescOf) (journal later : List Entry) (key : Key) : Type 0 where
  pub settled : is_settled desc later key ≡ true
  pub same_version : version desc later key ≡ version desc journal key
  pub same_value : value desc (accepted later) key ≡ value desc (accepted journal) key

-- a settled partition stays as it is until a raw partition below it gains rows
abbrev pub HasStableSettled : Type 0
HasStableSettled = (desc : DescOf) (journal more : List Entry) (key : Key)
    → HasEarlierSources desc → IsLegal desc (journal ++ more)
    → is_settled desc journal key ≡ true
    → All (λ raw. version desc (journal ++ more) raw ≡ version desc journal raw)
    (raw_below desc key)
    → StaysSettled desc journal (journal ++ more) key

-- no delivery that follows keeps a row in a raw partition
abbrev pub IsShut : DescOf → List DeliveryOf → Key → Type 0
IsShut desc accepted raw = (more : List DeliveryOf) (delivery : DeliveryOf)
    → touches desc raw (accepted ++ more) delivery ≡ false

-- a raw partition that is closed is shut
abbrev pub HasShutClosed : Type 0
HasShutClosed = (desc : DescOf) (accepted : List DeliveryOf) (key : Key)
    → is_closed_in desc accepted key ≡ true → IsShut desc accepted key
