-- After a fault of the source the LF of the line was not taken.
use Rattle.std.proofs.lemmas.Option.{IfSome_then}
use Rattle.std.specs.Prelude.{Err}
use Rattle.depot_io.specs.Lines.{ReadsLine}
use Rattle.depot_io.specs.declared.line_reader.LineFault.TheVariants.{ReadFault}
use Rattle.depot_cli.proofs.LineLemmas.{line-untaken}
use Rattle.depot_cli.proofs.script.take_line.Goals as goal

pub returns-in-Err-ReadFault-clause-answer : goal.returns-in-Err-ReadFault-clause-answer
returns-in-Err-ReadFault-clause-answer g c =
    let exact = rw c.in-Err-ReadFault.field-0-is at c.in-Err-ReadFault.ensures.exact in
    line-untaken _ _ c.args.reader.now.taken c.next_line.new.self.taken
    c.in-Err-ReadFault.ensures.kept.later (IfSome_then _ exact (λ bytes (reads : ReadsLine bytes
    c.args.reader.now.taken
    c.next_line.new.self.taken c.next_line.new.self.line (Err ReadFault)). reads.taken))
    c.in-Err-ReadFault.ensures.kept.left
