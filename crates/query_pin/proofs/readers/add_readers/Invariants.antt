-- The readers are those that were there, and those of the versions so far.
use Rattle.std.proofs.Common.{◌≡◌, take}
use Rattle.std.specs.Prelude.{◌||◌}
use Rattle.query_pin.specs.declared.readers.Reader.{Reader}
use Rattle.query_pin.specs.Readers.{has_reader, is_reader_of}
use Rattle.query_pin.proofs.readers.add_readers.Given as goal

abbrev pub invariant-loop-read : goal.invariant-loop-read
invariant-loop-read l = (reader : Reader) → has_reader l.readers.keys reader
    ≡ (has_reader l.fn.readers.keys reader
    || is_reader_of l.id (take l.read-index l.versions) reader)
