-- The place tells nothing, as before.
use Rattle.query_pin.specs.Inputs.{input_cmp}
use Rattle.query_pin.proofs.OrderLemmas.{input_cmp-same}
use Rattle.query_pin.proofs.PlaceLemmas.{told_at-place}
use Rattle.query_pin.proofs.replaced.take_replaced_place.Goals as goal

pub returns-in-Ok-clause-kept : goal.returns-in-Ok-clause-kept
returns-in-Ok-clause-kept c =
    told_at-place input_cmp input_cmp-same c.args.read c.args.replaced.now.entries
    c.insert.new.self.entries c.in-Ok.ensures.updates.0 c.requires.none
