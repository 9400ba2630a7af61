use Rattle.row_codec.specs.Deliveries.{IsDelivery, delivery_at}
use Rattle.row_codec.specs.Spelling.{delivery_bytes}
use Rattle.row_codec.proofs.CodecLemmas.{whole-alone}
use Rattle.row_codec.proofs.DeliveryLemmas.{deliveries_law}
use Rattle.row_codec.proofs.delivery.decode_delivery.Goals as goal

pub returns-in-Ok-default-empty-clause-ok : goal.returns-in-Ok-default-empty-clause-ok
returns-in-Ok-default-empty-clause-ok c =
    let accepted = c.args.accepted.now in
    let read = c.in-Ok-default-empty in
    whole-alone (IsDelivery accepted.desc) delivery_bytes (delivery_at accepted.desc)
    (deliveries_law accepted.desc accepted.is_accepted) c.args.bytes.now read.delivery
    read.field-0-1.now c.type_inv.bytes read.ensures.exact read.len_below
