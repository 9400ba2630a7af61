use Rattle.std.proofs.Common.{◌∙◌, refl}
use Rattle.depot_cell.specs.Cells.{same_cell}
use Rattle.depot_cell.specs.contracts.cell.CellPartialEq.TheImpl as derived
use Rattle.row_index.proofs.KeyLemmas.{pointwise-map, same_cell-cases}
use Rattle.row_index.proofs.key.KeyCellsPartialEq.eq.Goals as goal

pub returns : goal.returns
returns c = rw (← c.cells.ensures.exact, ← c.cells-2.ensures.exact)
    (c.eq.ensures
    ∙ pointwise-map (λ cell. cell.now) _ same_cell (λ left right.
    same_cell-cases derived.ghosts.eq (λ _ _. refl) (λ _ _. refl) (λ _ _. refl) (λ _ _. refl)
    left.now right.now)
    c.cells.result.now c.cells-2.result.now)
