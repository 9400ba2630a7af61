-- the writer has written the rows so far, and stands between two records
use Rattle.std.proofs.Common.{◌≡◌, take, Some, false}
use Rattle.csv.specs.Writing.{fields_written, has_written, text_written, writer_setup}
use Rattle.depot_script.proofs.FlexibleRows.{flexible_rows, flexible_writer}
use Rattle.depot_script.proofs.rows.rows_text.Given as goal

abbrev pub invariant-loop-row : goal.invariant-loop-row
invariant-loop-row l = record {
  written : text_written (λ text. Some text.items) l.writer
      ≡ Some (flexible_rows (take l.row-index l.row-items));
  between : fields_written l.writer ≡ 0;
  clean : has_written l.writer ≡ false;
  setup : writer_setup l.writer ≡ flexible_writer;
}
