-- Of a pin that reads none of the versions nothing changed.
use Rattle.std.proofs.Math.Bool.{or-false}
use Rattle.query_pin.specs.Readers.{has_reader}
use Rattle.query_pin.proofs.ReaderLemmas.{is_reader_of-part}
use Rattle.query_pin.proofs.readers.add_readers.Goals as goal

pub returns-in_err-add_reader-clause-others : goal.returns-in_err-add_reader-clause-others
returns-in_err-add_reader-clause-others c = λ reader none.
    rw (
      c.in_err-add_reader.ensures.err,
      c.loop-read.invariant reader,
      is_reader_of-part c.args.id c.args.versions.now c.loop-read.read-index reader none,
    )
    (or-false (has_reader c.args.readers.now.keys reader))
