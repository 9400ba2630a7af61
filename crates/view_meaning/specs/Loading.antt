-- What loading a delivery tells.
use Rattle.std.specs.Prelude.{List, ◌+◌, length}
use Rattle.desc_types.specs.Deliveries.{DeliveryOf}
use Rattle.desc_types.specs.Descriptions.{DescOf}
use Rattle.view_meaning.specs.declared.journal.Entry.{Entry}
use Rattle.view_meaning.specs.declared.journal.Loaded.{Loaded}
use Rattle.view_meaning.specs.Journal.{accepted}
use Rattle.view_meaning.specs.SetAside.{aside_rows, kept_rows}

-- what loading a delivery after a journal does
abbrev pub loaded : DescOf → List Entry → DeliveryOf → Loaded
loaded desc journal delivery = record {
  entry = length journal + 1;
  kept = length (kept_rows desc (accepted journal) delivery);
  aside = length (aside_rows desc (accepted journal) delivery);
}
