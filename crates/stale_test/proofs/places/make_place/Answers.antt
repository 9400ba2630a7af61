-- A place tells what was told without it.
use Rattle.std.proofs.Common.{◌∙◌, sym}
use Rattle.stale_test.proofs.PlaceLemmas.{KeepsValues-put}
use Rattle.stale_test.proofs.places.make_place.Goals as goal

pub returns-in-Ok-clause-kept : goal.returns-in-Ok-clause-kept
returns-in-Ok-clause-kept g c =
    KeepsValues-put c.args.empty c.args.key c.args.map.now.entries c.insert.new.self.entries
    (sym c.contains_key.ensures ∙ c.if-contains_key.false) c.in-Ok.ensures.updates.0
