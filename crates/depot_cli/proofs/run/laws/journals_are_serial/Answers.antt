use Rattle.depot_cli.proofs.SerialLemmas.{serial_journals}
use Rattle.depot_cli.proofs.run.laws.journals_are_serial.Goals as goal

pub returns : goal.returns
returns c = record { law = serial_journals }
