-- Two keys are the same exactly if they are equal.
use Rattle.std.specs.Prelude.{◌≡◌, List, true}
use Rattle.std.proofs.Common.{ap, subst}
use Rattle.std.proofs.lemmas.Bool.{false≢true}
use Rattle.std.specs.Bool.{Decides}
use Rattle.std.specs.Cmp.{IsEquivalence, decided, signed_Decides, int_eq_equiv, nat_eq_equiv}
use Rattle.std.specs.Cmp.Lexicographic.{bytes_decides, lists_equiv, pointwise_decides}
use Rattle.depot_cell.specs.declared.cell.Cell.{Cell}
use Rattle.depot_cell.specs.declared.cell.Cell.TheVariants.{Int, Text}
use Rattle.depot_cell.specs.Cells.{same_cell, same_cells}

-- cells that the test finds the same are equal
same_cell-equal : (left right : Cell) → same_cell left right ≡ true → left ≡ right
same_cell-equal (Int left) (Int right) same = ap Int ((signed_Decides left right).0 same)
same_cell-equal (Int left) (Text right) same = absurd (false≢true same)
same_cell-equal (Text left) (Int right) same = absurd (false≢true same)
same_cell-equal (Text left) (Text right) same = ap Text ((bytes_decides left right).0 same)

-- a cell is the same as itself
same_cell-itself : (cell : Cell) → same_cell cell cell ≡ true
same_cell-itself (Int number) = int_eq_equiv.refl number
same_cell-itself (Text bytes) = (lists_equiv nat_eq_equiv).refl bytes

-- keys are the same exactly if they are equal
pub same_cells-decides : (left right : List Cell) → Decides (same_cells left right) (left ≡ right)
same_cells-decides =
    pointwise_decides (λ left right. (
      same_cell-equal left right,
      λ equal. subst (λ other. same_cell left other ≡ true) equal (same_cell-itself left),
    ))

-- the test is an equivalence
pub same_cells-laws : IsEquivalence same_cells
same_cells-laws = decided same_cells same_cells-decides
