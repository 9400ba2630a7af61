use Rattle.depot_recovery.proofs.TypedLemmas.{typed_contents}
use Rattle.depot_recovery.proofs.typed.contents_have_types.Goals as goal

pub returns : goal.returns
returns c = record { law = typed_contents }
