-- the fields are the texts of the cells so far
use Rattle.std.proofs.Common.{◌≡◌, [], take}
use Rattle.std.specs.Prelude.{map}
use Rattle.csv.specs.Records.{fields_of, partial_of}
use Rattle.depot_cell.specs.Spelling.{text_of}
use Rattle.depot_script.proofs.rows.put_cells.Given as goal

abbrev pub invariant-loop-cell : goal.invariant-loop-cell
invariant-loop-cell l = record {
  exact : fields_of l.fields ≡ map text_of (take l.cell-index l.cell-items);
  whole : partial_of l.fields ≡ [];
}
