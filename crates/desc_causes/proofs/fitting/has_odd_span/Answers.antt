use Rattle.desc_types.proofs.BoolLemmas.{or-false}
use Rattle.desc_causes.proofs.fitting.has_odd_span.Goals as goal

pub returns-in-Filter : goal.returns-in-Filter
returns-in-Filter c = record {
  exact = rw (c.in-Filter.is, ← c.misfits.ensures.exact, or-false);
}

pub returns-in-Group : goal.returns-in-Group
returns-in-Group c = record {
  exact = rw (c.in-Group.is, ← c.misfits-in-Group.ensures.exact, or-false);
}

pub returns-then-misfits : goal.returns-then-misfits
returns-then-misfits c = record {
  exact = rw (c.in-Join.is, ← c.misfits-in-Join.ensures.exact, c.if-misfits.true);
}

pub returns-else-misfits : goal.returns-else-misfits
returns-else-misfits c = record {
  exact = rw (
    c.in-Join.is,
    ← c.misfits-in-Join.ensures.exact,
    c.if-misfits.false,
    ← c.misfits-else-misfits.ensures.exact,
    or-false,
  );
}
