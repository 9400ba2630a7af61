-- the rows so far, and after them what the rest gives, are all rows
use Rattle.std.proofs.Common.{◌≡◌, ◌-◌}
use Rattle.row_codec.specs.Deliveries.{records_at}
use Rattle.row_codec.proofs.LoopLemmas.{with_front}
use Rattle.row_codec.proofs.delivery.take_records.Given as goal

abbrev pub invariant-loop : goal.invariant-loop
invariant-loop l = with_front l.rows.items
    (records_at l.accepted.desc l.feed (l.count - l.counter) l.before l.rest)
    ≡ records_at l.accepted.desc l.feed l.count 0 l.fn.bytes
