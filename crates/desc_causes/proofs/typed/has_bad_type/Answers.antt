use Rattle.desc_causes.proofs.typed.has_bad_type.Goals as goal

pub returns-in-Filter : goal.returns-in-Filter
returns-in-Filter c = record {
  exact = rw (
    c.in-Filter.is,
    c.have_odd_literal.ensures.exact,
    c.source_columns.ensures.exact,
    c.deref-in-Filter.ensures.value,
  );
}

pub returns-in-Group : goal.returns-in-Group
returns-in-Group c = record {
  exact = rw (
    c.in-Group.is,
    c.have_text_sum.ensures.exact,
    c.source_columns-in-Group.ensures.exact,
    c.deref-in-Group.ensures.value,
  );
}

pub returns-in-Join : goal.returns-in-Join
returns-in-Join c = record {
  exact = rw (
    c.in-Join.is,
    c.have_odd_pair.ensures.exact,
    c.source_columns-left.ensures.exact,
    c.source_columns-in-Join.ensures.exact,
    c.deref-in-Join.ensures.value,
  );
}
