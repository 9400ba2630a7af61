use Rattle.std.proofs.Common.{Ok, Err, length, ap, arith}
use Rattle.csv.specs.Records.{fields_of}
use Rattle.feed_csv.proofs.BodyLemmas.{field_at-first, row_of-empty, row_of-named, row_of-none}
use Rattle.feed_csv.proofs.body.read_row.Goals as goal

pub returns-in_default : goal.returns-in_default
returns-in_default c = record {
  exact = row_of-empty c.args.served.now.desc c.args.feed c.args.number
      (fields_of c.args.fields.now) (rw c.in_default.is at c.get.ensures.value);
}

pub returns-in_default-find_raw_table_again : goal.returns-in_default-find_raw_table_again
returns-in_default-find_raw_table_again c = record {
  exact = row_of-none c.args.served.now.desc c.args.feed c.args.number
      (fields_of c.args.fields.now) c.in-Some.name.now c.in-Some.ensures.value
      (rw c.in_default-find_raw_table_again.is at c.find_raw_table_again.ensures.exact);
}

pub table_cells-requires : goal.table_cells-requires
table_cells-requires c =
    let size = ap length
    (field_at-first (fields_of c.args.fields.now) c.in-Some.name.now c.in-Some.ensures.value) in
    record { named = omega arith }

pub returns-in-Ok : goal.returns-in-Ok
returns-in-Ok c = record {
  exact = row_of-named c.args.served.now.desc c.args.feed c.args.number
      (fields_of c.args.fields.now) c.in-Some.name.now c.in-Some-find_raw_table_again.table
      c.table.result.now (Ok c.in-Ok.cells) c.in-Some.ensures.value
      c.in-Some-find_raw_table_again.ensures.exact c.table.ensures.exact
      (rw c.in-Ok.is at c.in_ok-cells.ensures.exact);
}

pub returns-in-Err : goal.returns-in-Err
returns-in-Err c = record {
  exact = row_of-named c.args.served.now.desc c.args.feed c.args.number
      (fields_of c.args.fields.now) c.in-Some.name.now c.in-Some-find_raw_table_again.table
      c.table.result.now (Err c.in-Err.cause) c.in-Some.ensures.value
      c.in-Some-find_raw_table_again.ensures.exact c.table.ensures.exact
      (rw c.in-Err.is at c.in_ok-cells.ensures.exact);
}
