-- After a fault of the source the last byte of the body was not taken.
use Rattle.depot_cli.proofs.LineLemmas.{body-untaken}
use Rattle.depot_cli.proofs.script.take_body.Goals as goal

pub returns-in-Err-ReadFault-clause-answer : goal.returns-in-Err-ReadFault-clause-answer
returns-in-Err-ReadFault-clause-answer g c =
    let answer = rw c.in-Err-ReadFault.field-0-is at c.in-Err-ReadFault.ensures.answer in
    body-untaken _ _ c.args.reader.now.taken c.take_exact.new.self.taken c.args.size
    c.in-Err-ReadFault.ensures.kept.later answer.0 c.in-Err-ReadFault.ensures.kept.left
