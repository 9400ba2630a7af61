-- A delivery that was read fits the description.
use Rattle.depot_cli.proofs.AcceptedLemmas.{FitsDelivery-read}
use Rattle.depot_cli.proofs.script.loading.Goals as goal

pub returns-in-Ok-clause-in_range : goal.returns-in-Ok-clause-in_range
returns-in-Ok-clause-in_range c =
    FitsDelivery-read c.args.served.now.desc c.args.feed c.args.number c.args.closes
    c.args.body.now c.in-Ok.delivery c.args.served.now.is_accepted c.requires.fits
    c.in-Ok.ensures.exact
