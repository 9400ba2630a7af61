-- What the rows of a body have.
use Rattle.std.specs.Prelude.{ℕ, ◌≡◌, ◌<◌, ◌≤◌, List, Ok, All, length}
use Rattle.std.specs.List.{AllAdjacentBelow}
use Rattle.desc_types.specs.declared.delivery.DRow.{DRow}
use Rattle.desc_types.specs.Accepted.{IsAccepted}
use Rattle.desc_types.specs.Descriptions.{DescOf}
use Rattle.view_meaning.specs.Journal.{FitsRow}
use Rattle.feed_csv.specs.Bodies.{rows_of}

-- each is a row of a raw table of the feed, and their record numbers rise from 1 on
pub record AreRowsOf (desc : DescOf) (feed : ℕ) (rows : List DRow) : Type 0 where
  pub fit : All (FitsRow desc feed) rows
  pub from_one : All (λ (row : DRow). 1 ≤ row.number) rows
  pub rising : AllAdjacentBelow (λ (row next : DRow). row.number < next.number) rows (length rows)

-- so are the rows of each body, if the description was accepted
abbrev pub RowsFit : Type 0
RowsFit = (desc : DescOf) (feed : ℕ) (body : List ℕ) (rows : List DRow) → IsAccepted desc
    → rows_of desc feed body ≡ Ok rows → AreRowsOf desc feed rows
