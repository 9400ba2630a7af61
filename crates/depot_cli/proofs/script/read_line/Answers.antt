-- What words say fits the description.
use Rattle.std.proofs.Common.{Bor, List, ℕ, map, subst, sym}
use Rattle.depot_cli.specs.ScriptCalls.{FitsLine}
use Rattle.depot_cli.proofs.AcceptedLemmas.{FitsLine-words}
use Rattle.depot_cli.proofs.script.read_line.Goals as goal

pub returns-clause-fits : goal.returns-clause-fits
returns-clause-fits c =
    subst (FitsLine c.args.served.now.desc) (sym c.in_ok-read_command.ensures.exact)
    (FitsLine-words c.args.served.now.desc
    (map (λ (word : Bor (List ℕ)). word.now) c.deref.result.now))
