-- Of content by cases on the file, and of rows by their one spelling.
use Rattle.std.proofs.Common.{ℕ, List, ap, ◌∙◌}
use Rattle.std.specs.declared.result.Result.{Result}
use Rattle.row_codec.specs.Reading.{read_rows}
use Rattle.row_codec.specs.Spelling.{rows_bytes}
use Rattle.version_store.specs.Reading.{read_as}
use Rattle.version_store.proofs.FileLemmas.{front_in-again, front_in-alone}
use Rattle.version_store.proofs.laws.files_are_read_again.Goals as goal

pub returns : goal.returns
returns c = record {
  law = record {
    again = λ image file bytes begins. front_in-again (image file) bytes begins;
    alone = λ image file len bytes read. front_in-alone (image file) len bytes read;
    rows = λ image types file rows are begins.
        ap (λ (front : Result (List ℕ) ℕ). read_as (read_rows types) front)
        (front_in-again (image file) (rows_bytes rows) begins)
        ∙ (c.rows_have_one_spelling.ensures.law types).again rows are;
  };
}
