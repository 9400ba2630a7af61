use Rattle.row_codec.specs.Bodies.{IsBody, body_at, body_bytes}
use Rattle.row_codec.proofs.BodyLemmas.{bodies_law}
use Rattle.row_codec.proofs.CodecLemmas.{whole-alone}
use Rattle.row_codec.proofs.body.decode_body.Goals as goal

pub returns-in-Ok-default-empty-clause-ok : goal.returns-in-Ok-default-empty-clause-ok
returns-in-Ok-default-empty-clause-ok c =
    let read = c.in-Ok-default-empty in
    whole-alone IsBody body_bytes body_at bodies_law c.args.bytes.now read.body
    read.field-0-1.now c.type_inv.bytes read.ensures.exact read.len_below
