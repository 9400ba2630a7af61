use Rattle.turn_lock.proofs.TellsLemmas.{own_entries-turn}
use Rattle.turn_lock.proofs.laws.own_entries_are_those_added.Goals as goal

pub returns : goal.returns
returns g c = record { law = own_entries-turn g.V.Grows.meaning }
