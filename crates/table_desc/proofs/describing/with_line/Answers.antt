use Rattle.std.proofs.Common.{sym}
use Rattle.desc_lines.specs.WrittenLines.{written_line}
use Rattle.table_desc.proofs.SaidLemmas.{IsSaidLine-read}
use Rattle.table_desc.proofs.describing.with_line.Goals as goal

pub with_written-requires : goal.with_written-requires
with_written-requires c =
    let said = rw (
      c.in-Some.is,
      c.deref-then-is_line_text.ensures.value,
      c.in_ok-words.ensures.exact,
    ) at c.in_ok-line.ensures.exact in
    record {
      said = IsSaidLine-read c.args.line.now (written_line c.in-Some.line)
          (sym c.if-is_line_text.ensures.exact) (sym said);
    }
