use Rattle.depot_cell.proofs.ReadingLemmas.{gives_cells}
use Rattle.depot_cell.proofs.reading.read_cells_are_cells.Goals as goal

pub returns : goal.returns
returns c = record { law = gives_cells }
