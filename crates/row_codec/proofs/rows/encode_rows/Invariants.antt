-- the count and the bytes of the rows so far
use Rattle.std.proofs.Common.{◌≡◌, ◌++◌, length, take}
use Rattle.std.specs.Prelude.{flat_map}
use Rattle.row_codec.specs.Spelling.{number_bytes, row_bytes}
use Rattle.row_codec.proofs.rows.encode_rows.Given as goal

abbrev pub invariant-loop-row : goal.invariant-loop-row
invariant-loop-row l =
    l.out.items ≡ number_bytes 8 (length l.rows) ++ flat_map row_bytes (take l.row-index l.row-items)
