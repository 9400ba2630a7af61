-- The place tells nothing, as before.
use Rattle.desc_types.specs.Keys.{key_cmp}
use Rattle.query_pin.proofs.OrderLemmas.{key_cmp-same}
use Rattle.query_pin.proofs.PlaceLemmas.{told_at-place}
use Rattle.query_pin.proofs.newest.take_newest_place.Goals as goal

pub returns-in-Ok-clause-kept : goal.returns-in-Ok-clause-kept
returns-in-Ok-clause-kept c =
    told_at-place key_cmp key_cmp-same c.args.key c.args.newest.now.entries
    c.insert.new.self.entries c.in-Ok.ensures.updates.0 c.requires.none
