-- What is copied is the front of what stood ready.
use Rattle.std.proofs.Common.{◌≡◌, ◌+◌, ◌<◌, length, take, arith}
use Rattle.std.proofs.KnownBytes.{prepend_known-read}
use Rattle.depot_io.proofs.PieceLemmas.{slice_range-take, slice_range-empty, slice_range-le}
use Rattle.depot_io.proofs.adapters.ReadAheadSource.take.Goals as goal

pub returns-clause-left : goal.returns-clause-left
returns-clause-left g c =
    let ready = c.make_ready.new.self in
    let count = c.copy_front-count.result in
    let into = c.copy_front-count.new.into in
    let long = slice_range-le ready.ahead ready.at ready.end ready.filled in
    let front = slice_range-take ready.ahead (take count into) ready.at count ready.end
    c.copy_front-count.ensures.copied (omega arith) in
    let read = prepend_known-read _ _ _ _ (take count into) ((count ≡ 0) × (0 < length into))
    c.in_ok-make_ready.ensures.kept front
    (λ none. (
      slice_range-empty ready.ahead (ready.at + count) ready.end (omega arith),
      c.in_ok-make_ready.ensures.end (omega arith),
    )) in
    (read.0, λ none room. read.1 (none, room))
