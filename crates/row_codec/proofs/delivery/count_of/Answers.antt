use Rattle.std.proofs.Common.{arith}
use Rattle.row_codec.proofs.RisingLemmas.{count-le-last}
use Rattle.row_codec.proofs.delivery.count_of.Goals as goal

pub prove-unreachable-requires : goal.prove-unreachable-requires
prove-unreachable-requires c =
    let few = count-le-last c.args.rows.now c.last-item.result c.requires.from_one
    c.requires.rising (omega arith) c.last-item.is in
    omega (arith, few, c.if-prove.true)
