-- the rows so far, and after them what the rest gives, are all rows
use Rattle.std.proofs.Common.{◌≡◌, ◌-◌, map}
use Rattle.row_codec.specs.Reading.{so_many_rows_at, wanted_of}
use Rattle.row_codec.proofs.LoopLemmas.{with_front}
use Rattle.row_codec.proofs.rows.take_so_many_rows.Given as goal

abbrev pub invariant-loop : goal.invariant-loop
invariant-loop l =
    with_front l.rows (so_many_rows_at (map wanted_of l.types) (l.count - l.counter) l.rest)
    ≡ so_many_rows_at (map wanted_of l.types) l.count l.fn.bytes
