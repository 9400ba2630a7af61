-- What was read fits.
use Rattle.std.proofs.Common.{◌<◌, arith, length}
use Rattle.std.proofs.lemmas.Bool.Decides.{nat_tests}
use Rattle.core_tests.proofs.DeliveryLemmas.{FitsDelivery-read}
use Rattle.core_tests.proofs.served.delivered.Goals as goal

pub returns-in-Ok : goal.returns-in-Ok
returns-in-Ok c =
    let desc = c.args.served.now.desc in
    let some : 0 < length desc.feeds = rw (← c.served.view_is) (grind (arith, nat_tests)) in
    record {
      fits = FitsDelivery-read desc c.args.number c.args.closes c.args.body.now c.in-Ok.delivery
          c.args.served.now.is_accepted some c.ranges.number.fits c.if-closes-gt-END.false
          c.in-Ok.ensures.exact;
    }
