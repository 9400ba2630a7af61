-- the fields before the rows, and the bytes of the rows so far
use Rattle.std.proofs.Common.{◌≡◌, ◌++◌, take}
use Rattle.std.specs.Prelude.{flat_map}
use Rattle.row_codec.specs.Spelling.{record_bytes}
use Rattle.row_codec.proofs.delivery.encode_delivery.Given as goal

abbrev pub invariant-loop-row : goal.invariant-loop-row
invariant-loop-row l =
    l.out.items ≡ l.initial.out.items ++ flat_map record_bytes (take l.row-index l.delivery.rows)
