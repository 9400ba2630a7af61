use Rattle.std.proofs.Common.{[]}
use Rattle.depot_cli.proofs.SerialLemmas.{IsLegal-serial}
use Rattle.depot_cli.proofs.run.laws.serial_is_legal.Goals as goal

pub returns : goal.returns
returns c = record {
  law = λ desc items earlier. IsLegal-serial desc [] items earlier tt;
}
