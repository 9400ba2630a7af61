use Rattle.std.proofs.Common.{map}
use Rattle.row_codec.specs.Laws.{AreRowsOf}
use Rattle.row_codec.specs.Reading.{rows_at, wanted_of}
use Rattle.row_codec.specs.Spelling.{rows_bytes}
use Rattle.row_codec.proofs.CellLemmas.{rows_law}
use Rattle.row_codec.proofs.CodecLemmas.{whole-alone}
use Rattle.row_codec.proofs.rows.decode_rows.Goals as goal

pub returns-in-Ok-default-empty-clause-ok : goal.returns-in-Ok-default-empty-clause-ok
returns-in-Ok-default-empty-clause-ok c =
    let types = c.args.types.now in
    let read = c.in-Ok-default-empty in
    whole-alone (AreRowsOf types) rows_bytes (rows_at (map wanted_of types)) (rows_law types)
    c.args.bytes.now read.rows read.field-0-1.now c.type_inv.bytes read.ensures.exact
    read.len_below
