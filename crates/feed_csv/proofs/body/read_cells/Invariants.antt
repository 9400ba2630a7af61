-- the cells so far, and after them those of the columns that are left, are those of all columns
use Rattle.std.proofs.Common.{drop}
use Rattle.csv.specs.Records.{fields_of}
use Rattle.feed_csv.proofs.BodyLemmas.{ReadsCells}
use Rattle.feed_csv.proofs.body.read_cells.Given as goal

abbrev pub invariant-loop-place : goal.invariant-loop-place
invariant-loop-place l = ReadsCells l.time l.columns (drop 1 (fields_of l.fields)) l.place l.cells
