use Rattle.table_desc.proofs.DraftLemmas.{drafted-described}
use Rattle.table_desc.proofs.draft.texts_are_drafted.Goals as goal

pub returns : goal.returns
returns c = record { law = drafted-described }
