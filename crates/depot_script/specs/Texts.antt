-- The texts of the replies. Each line ends with LF, and numbers are in the shortest decimal form.
use Rattle.std.specs.Prelude.{ℕ, List, [], ◌∷◌, ◌++◌, codes, decimal, map, flat_map}
use Rattle.std.specs.Prelude.{Option, Some, None, ◌≡◌, length, take}
use Rattle.csv.specs.Writing.{row_text, default_writer}
use Rattle.depot_cell.specs.declared.cell.Cell.{Cell}
use Rattle.depot_cell.specs.Spelling.{text_of}
use Rattle.desc_types.specs.Descriptions.{DescOf}
use Rattle.view_meaning.specs.declared.aside.Aside.{Aside}
use Rattle.view_meaning.specs.declared.journal.Loaded.{Loaded}
use Rattle.view_meaning.specs.declared.request.Mark.{Mark}
use Rattle.view_meaning.specs.declared.request.Mark.TheVariants as mark
use Rattle.view_meaning.specs.declared.request.MarkItem.{MarkItem}
use Rattle.view_meaning.specs.declared.request.PinItem.{PinItem}
use Rattle.depot_script.specs.Names.{feed_name, table_name}

-- the end of a line
abbrev pub line_end : List ℕ
line_end = 10 ∷ []

-- a delivery was accepted
abbrev pub loaded_text : (feed : List ℕ) → (number : ℕ) → Loaded → List ℕ
loaded_text feed number loaded =
    codes "loaded " ++ feed ++ codes " " ++ decimal number
    ++ codes " entry " ++ decimal loaded.entry
    ++ codes " kept " ++ decimal loaded.kept ++ codes " aside " ++ decimal loaded.aside ++ line_end

-- a delivery is a repeat
abbrev pub repeat_text : (feed : List ℕ) → (number : ℕ) → List ℕ
repeat_text feed number = codes "repeat " ++ feed ++ codes " " ++ decimal number ++ line_end

-- the record of a body that is bad, if it is one
abbrev pub record_text : (at : Option ℕ) → List ℕ
record_text None = []
record_text (Some at) = codes " record " ++ decimal at

-- a line was refused for this cause, which a record of its body may have
abbrev pub refused_text : (line : ℕ) → (at : Option ℕ) → (cause : List ℕ) → List ℕ
refused_text line at cause =
    codes "refused " ++ decimal line ++ record_text at ++ codes " " ++ cause ++ line_end

-- all was computed, up to this place of the journal
abbrev pub drained_text : (place : ℕ) → List ℕ
drained_text place = codes "drained at " ++ decimal place ++ line_end

-- how many versions were dropped, at a place
abbrev pub reclaimed_text : (dropped place : ℕ) → List ℕ
reclaimed_text dropped place =
    codes "reclaimed " ++ decimal dropped ++ codes " at " ++ decimal place ++ line_end

-- the word of a mark
abbrev pub mark_text : Mark → List ℕ
mark_text mark.Open = codes "open"
mark_text mark.Closed = codes "closed"
mark_text mark.Complete = codes "complete"

-- the line of a partition that is shown
abbrev pub part_text : (table : List ℕ) → PinItem → (rows : ℕ) → List ℕ
part_text table item rows =
    codes "part " ++ table ++ codes " " ++ decimal item.key.part
    ++ codes " version " ++ decimal item.version
    ++ codes " upto " ++ decimal item.upto ++ codes " mark " ++ mark_text item.mark
    ++ codes " rows " ++ decimal rows ++ line_end

-- the fields are the texts of the first so many cells of a row
pub record AreFrontOf (row : List Cell) (fields : List (List ℕ)) : Type 0 where
  pub many : ℕ
  pub texts : fields ≡ map text_of (take many row)

-- rows as CSV: for each the text of its cells, by the CSV writer with its default setup
abbrev pub rows_text : List (List Cell) → List ℕ
rows_text rows = flat_map (λ row. row_text default_writer (map text_of row)) rows

-- the first line of an answer: its place in the journal, and how many partitions follow
abbrev pub answer_text : (place parts : ℕ) → List ℕ
answer_text place parts =
    codes "answer at " ++ decimal place ++ codes " parts " ++ decimal parts ++ line_end

-- the first line of marks: their place in the journal, and how many partitions follow
abbrev pub marks_head_text : (place parts : ℕ) → List ℕ
marks_head_text place parts =
    codes "marks at " ++ decimal place ++ codes " parts " ++ decimal parts ++ line_end

-- the line of a partition and its mark
abbrev pub mark_line_text : DescOf → MarkItem → List ℕ
mark_line_text desc item =
    codes "part " ++ table_name desc item.key.table ++ codes " " ++ decimal item.key.part
    ++ codes " mark " ++ mark_text item.mark ++ line_end

-- the marks of partitions, at a place of the journal
abbrev pub marks_text : DescOf → (place : ℕ) → List MarkItem → List ℕ
marks_text desc place items =
    marks_head_text place (length items) ++ flat_map (mark_line_text desc) items

-- the first line of the rows of a feed that were set aside: their place in the journal, and how
-- many follow
abbrev pub asides_head_text : DescOf → (feed place rows : ℕ) → List ℕ
asides_head_text desc feed place rows =
    codes "asides " ++ feed_name desc feed ++ codes " at " ++ decimal place
    ++ codes " rows " ++ decimal rows ++ line_end

-- the line of a row of a feed that was set aside: its delivery, its record there, and the partition
-- that it is for
abbrev pub aside_line_text : DescOf → (feed : ℕ) → Aside → List ℕ
aside_line_text desc feed aside =
    codes "aside " ++ feed_name desc feed ++ codes " " ++ decimal aside.number
    ++ codes " record " ++ decimal aside.row
    ++ codes " table " ++ table_name desc aside.table ++ codes " part " ++ decimal aside.part
    ++ line_end

-- the rows of a feed that were set aside, at a place of the journal
abbrev pub asides_text : DescOf → (feed place : ℕ) → List Aside → List ℕ
asides_text desc feed place asides =
    asides_head_text desc feed place (length asides) ++ flat_map (aside_line_text desc feed) asides
