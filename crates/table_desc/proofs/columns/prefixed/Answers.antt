use Rattle.std.proofs.Common.{arith}
use Rattle.table_desc.proofs.ColumnNameLemmas.{IsShortText-prefixed}
use Rattle.table_desc.proofs.columns.prefixed.Goals as goal

pub from_bytes-requires : goal.from_bytes-requires
from_bytes-requires c = record {
  short = rw (
    c.deref.ensures.value,
    c.in_ok-extend_from_slice.ensures.items,
    c.in_ok-name.ensures.items,
    c.as_bytes.ensures.exact,
  )
      (IsShortText-prefixed c.args.prefix.now c.args.column.now.name (omega arith)
      c.requires.text c.as_bytes.ensures.short c.requires.room);
}
