use Rattle.view_meaning.proofs.ShownLemmas.{shown_contents}
use Rattle.view_meaning.proofs.laws.shown_is_content.Goals as goal

pub returns : goal.returns
returns c = record { law = shown_contents }
