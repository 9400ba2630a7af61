-- Left rows beside the right rows that stand by their keys: one left row more, and the rows of a
-- join.
use Rattle.std.proofs.Common.{◌≡◌, ◌∙◌, ℕ, ◌+◌, ◌<◌, List, [], ◌∷◌, ◌++◌, length, get_or, take}
use Rattle.std.proofs.Common.{refl, sym, ap}
use Rattle.std.proofs.lemmas.Grind.{flat_map-append}
use Rattle.std.proofs.lemmas.List.{append-nil, append_assoc, take_more}
use Rattle.depot_cell.specs.declared.cell.Cell.{Cell}
use Rattle.desc_types.specs.declared.view.Pair.{Pair}
use Rattle.view_meaning.specs.Operations.{beside, cut_to, left_columns, right_columns, joined_rows}
use Rattle.row_index.specs.Index.{keyed}
use Rattle.row_index.proofs.IndexLemmas.{rows_by-keyed}
use Rattle.view_join.specs.Pairs.{paired, row_paired}

module _ (columns : List ℕ) (entries : List (List Cell × List (List Cell))) where
  -- one left row more is beside those that stand by its key
  paired-take : (left : List (List Cell)) (index : ℕ) (cells : List Cell) → index < length left
      → cells ≡ get_or left index cells
      → paired columns entries (take (index + 1) left)
      ≡ paired columns entries (take index left) ++ row_paired columns entries cells
  paired-take left index cells below read =
      ap (paired columns entries)
      (take_more left index cells below
      ∙ ap (λ (next : List Cell). take index left ++ next ∷ []) (sym read))
      ∙ flat_map-append (row_paired columns entries) (take index left) (cells ∷ [])
      ∙ ap (λ (last : List (List Cell)). paired columns entries (take index left) ++ last)
      (append-nil (row_paired columns entries cells))

  -- so are the rows that it is put to
  pub paired-step : (before now next left : List (List Cell)) (index : ℕ) (cells : List Cell)
      → index < length left → cells ≡ get_or left index cells
      → now ≡ before ++ paired columns entries (take index left)
      → next ≡ now ++ row_paired columns entries cells
      → next ≡ before ++ paired columns entries (take (index + 1) left)
  paired-step before now next left index cells below read so_far pushed =
      pushed
      ∙ ap (λ (rows : List (List Cell)). rows ++ row_paired columns entries cells) so_far
      ∙ append_assoc before (paired columns entries (take index left))
      (row_paired columns entries cells)
      ∙ ap (λ (rows : List (List Cell)). before ++ rows)
      (sym (paired-take left index cells below read))

-- with the right rows by their keys they are the rows of a join
paired-keyed : (on : List Pair) (left right : List (List Cell))
    → paired (left_columns on) (keyed (right_columns on) right) left ≡ joined_rows on left right
paired-keyed on [] right = refl
paired-keyed on (cells ∷ left) right =
    λ i. beside cells (rows_by-keyed (right_columns on) right (cut_to (left_columns on) cells) i)
    ++ paired-keyed on left right i

-- whatever the names of the columns and of the entries
pub paired-joined_rows : (on : List Pair) (columns others : List ℕ)
    (entries : List (List Cell × List (List Cell))) (left right : List (List Cell))
    → columns ≡ left_columns on → others ≡ right_columns on → entries ≡ keyed others right
    → paired columns entries left ≡ joined_rows on left right
paired-joined_rows on columns others entries left right lefts rights indexed =
    ap (λ (columns : List ℕ). paired columns entries left) lefts
    ∙ ap (λ (entries : List (List Cell × List (List Cell))). paired (left_columns on) entries left)
    (indexed ∙ ap (λ (columns : List ℕ). keyed columns right) rights)
    ∙ paired-keyed on left right
