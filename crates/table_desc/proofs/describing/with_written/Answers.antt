use Rattle.std.proofs.Common.{◌∙◌, sym}
use Rattle.desc_lines.specs.WrittenLines.{written_line}
use Rattle.table_desc.proofs.AcceptedLemmas.{IsAccepted-declared}
use Rattle.table_desc.proofs.describing.with_written.Goals as goal

pub new-requires : goal.new-requires
new-requires c =
    let fine = sym c.in_ok-cause.ensures.exact ∙ c.in-None.is in
    record {
      accepted = rw c.in_ok-with_declared-in-None.ensures.exact
          (IsAccepted-declared c.args.accepted.desc (written_line c.args.line.now)
          c.args.accepted.is_accepted c.requires.said fine);
    }
