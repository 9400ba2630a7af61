use Rattle.std.proofs.Common.{◌∙◌, ap}
use Rattle.std.specs.Prelude.{fold}
use Rattle.std.specs.Hash.{HashWrites}
use Rattle.depot_cell.specs.contracts.cell.CellHash.TheImpl as derived
use Rattle.row_index.proofs.KeyLemmas.{slice-map}
use Rattle.row_index.proofs.key.KeyCellsHash.hash.Goals as goal

pub returns : goal.returns
returns g c = rw (← c.cells.ensures.exact)
    (c.hash.ensures
    ∙ ap (λ (writes : HashWrites). fold g.H.Hasher.write c.args.state.now writes)
    (slice-map (λ cell. cell.now) derived.ghosts.hash_input c.cells.result.now))
