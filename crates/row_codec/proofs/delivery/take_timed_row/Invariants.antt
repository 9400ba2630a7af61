-- the cells so far, and after them what the rest gives, are the whole row
use Rattle.std.proofs.Common.{◌≡◌, drop}
use Rattle.row_codec.specs.Deliveries.{timed_wants}
use Rattle.row_codec.specs.Reading.{row_at}
use Rattle.row_codec.proofs.LoopLemmas.{with_front}
use Rattle.row_codec.proofs.delivery.take_timed_row.Given as goal

abbrev pub invariant-loop-number : goal.invariant-loop-number
invariant-loop-number l = with_front l.row (row_at (drop l.number (timed_wants l.time l.columns)) l.rest)
    ≡ row_at (timed_wants l.time l.columns) l.fn.bytes
