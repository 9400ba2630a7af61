-- the bytes of the cells so far stand after what stood there
use Rattle.std.proofs.Common.{◌≡◌, ◌++◌, take}
use Rattle.row_codec.specs.Spelling.{row_bytes}
use Rattle.row_codec.proofs.field.put_row.Given as goal

abbrev pub invariant-loop-cell : goal.invariant-loop-cell
invariant-loop-cell l =
    l.out.items ≡ l.initial.out.items ++ row_bytes (take l.cell-index l.cell-items)
