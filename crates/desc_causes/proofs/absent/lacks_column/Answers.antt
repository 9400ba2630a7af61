use Rattle.desc_types.proofs.ListLemmas.{list_any-map}
use Rattle.desc_causes.proofs.absent.lacks_column.Goals as goal

pub returns-else-lack_cond : goal.returns-else-lack_cond
returns-else-lack_cond c = record {
  exact = rw (
    c.in-Filter.is,
    ← c.source_columns-columns.ensures.exact,
    ← c.deref-in-Filter.ensures.value,
    ← c.lack_cond.ensures.exact,
    c.if-lack_cond.false,
    list_any-map,
    ← c.deref-else-lack_cond.ensures.value,
  )
      c.lack_name.ensures.exact;
}

pub returns-then-lack_name : goal.returns-then-lack_name
returns-then-lack_name c = record {
  exact = rw (
    c.in-Group.is,
    ← c.source_columns-columns-in-Group.ensures.exact,
    list_any-map,
    ← c.deref-in-Group.ensures.value,
    ← c.lack_name-in-Group.ensures.exact,
    c.if-lack_name.true,
  );
}

pub returns-else-lack_name : goal.returns-else-lack_name
returns-else-lack_name c = record {
  exact = rw (
    c.in-Group.is,
    ← c.source_columns-columns-in-Group.ensures.exact,
    list_any-map,
    ← c.deref-in-Group.ensures.value,
    ← c.lack_name-in-Group.ensures.exact,
    c.if-lack_name.false,
    ← c.deref-else-lack_name.ensures.value,
  )
      c.lack_agg.ensures.exact;
}

pub returns-in-Join : goal.returns-in-Join
returns-in-Join c = record {
  exact = rw (
    c.in-Join.is,
    c.lack_side.ensures.exact,
    c.source_columns-left.ensures.exact,
    c.source_columns.ensures.exact,
    c.deref-in-Join.ensures.value,
  );
}
