-- The first reader from the version on is of that version, or none is.
use Rattle.query_pin.proofs.ReaderLemmas.{TellsIfRead-first, TellsIfRead-none}
use Rattle.query_pin.proofs.readers.is_read_by.Goals as goal

pub returns-in-Some : goal.returns-in-Some
returns-in-Some c = record {
  exact = rw c.eq.ensures
      (TellsIfRead-first c.args.readers.now c.args.read c.in-Some.reader.now c.next.new.self
      (rw c.in-Some.ensures.steps at (c.range.ensures.in_range tt)));
}

pub returns-in-None : goal.returns-in-None
returns-in-None c = record {
  exact = TellsIfRead-none c.args.readers.now c.args.read
      (rw c.in-None.ensures.steps.0 at (c.range.ensures.in_range tt));
}
