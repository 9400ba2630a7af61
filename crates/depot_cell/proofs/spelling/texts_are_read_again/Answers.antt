use Rattle.depot_cell.proofs.SpellingLemmas.{exact_texts}
use Rattle.depot_cell.proofs.spelling.texts_are_read_again.Goals as goal

pub returns : goal.returns
returns c = record { law = exact_texts }
