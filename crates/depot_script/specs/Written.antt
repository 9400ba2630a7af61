-- What a session line says, in its words: nothing is looked up, and no number is read.
use Rattle.std.specs.Prelude.{ℕ, List, [], ◌∷◌, Option, Some, None, Bool}
use Rattle.std.specs.Prelude.{if◌then◌else◌, codes, option_map}
use Rattle.std.specs.List.{list_any, slice_split}
use Rattle.std.specs.Str.{bytes_eq}
use Rattle.desc_lines.specs.Cuts.{with_first}

-- an item of a query: a table, the two ticks, and a level if the item names one
pub record WrittenItemOf : Type 0 where
  pub table : List ℕ
  pub from : List ℕ
  pub to : List ℕ
  pub level : Option (List ℕ)

-- a command: a delivery with its feed, its number, what it closes and the size of its body; a
-- drain; a query; the marks of an item; the rows of a feed that were set aside; a reclaim; the end
pub data WrittenCommandOf : Type 0 where
  Deliver : (feed number closes size : List ℕ) → WrittenCommandOf
  Drain : WrittenCommandOf
  Query : (items : List WrittenItemOf) → WrittenCommandOf
  Marks : (item : WrittenItemOf) → WrittenCommandOf
  Aside : (feed : List ℕ) → WrittenCommandOf
  Reclaim : WrittenCommandOf
  End : WrittenCommandOf

-- the words that commands begin with
abbrev pub command_words : List (List ℕ)
command_words =
    codes "deliver" ∷ codes "drain" ∷ codes "query" ∷ codes "marks" ∷ codes "aside"
    ∷ codes "reclaim" ∷ codes "end" ∷ []

-- whether a word is one of these
abbrev pub is_command : List ℕ → Bool
is_command word = list_any (bytes_eq word) command_words

-- whether a word stands between two items
abbrev pub is_semicolon : List ℕ → Bool
is_semicolon word = bytes_eq word (codes ";")

-- `T FROM TO`
abbrev pub span_of : (table from to : List ℕ) → (level : Option (List ℕ)) → WrittenItemOf
span_of table from to level = record { table = table; from = from; to = to; level = level }

-- `T FROM TO` or `T FROM TO LEVEL`
abbrev pub item_of : List (List ℕ) → Option WrittenItemOf
item_of (table ∷ from ∷ to ∷ []) = Some (span_of table from to None)
item_of (table ∷ from ∷ to ∷ level ∷ []) = Some (span_of table from to (Some level))
item_of _ = None

-- an item for each list of words, if each has one
abbrev pub each_item_of : List (List (List ℕ)) → Option (List WrittenItemOf)
each_item_of [] = Some []
each_item_of (words ∷ others) = with_first (item_of words) (each_item_of others)

-- `ITEM [; ITEM ..]`: at least one, since no words are one item of no words
abbrev pub items_of : List (List ℕ) → Option (List WrittenItemOf)
items_of words = each_item_of (slice_split is_semicolon words)

-- a command of one word
abbrev pub alone : WrittenCommandOf → (others : List (List ℕ)) → Option WrittenCommandOf
alone command [] = Some command
alone command (_ ∷ _) = None

-- `F NUMBER CLOSES BYTES`
abbrev pub deliver_of : (others : List (List ℕ)) → Option WrittenCommandOf
deliver_of (feed ∷ number ∷ closes ∷ size ∷ []) = Some (Deliver feed number closes size)
deliver_of _ = None

-- `T FROM TO`
abbrev pub marks_of : (others : List (List ℕ)) → Option WrittenCommandOf
marks_of (table ∷ from ∷ to ∷ []) = Some (Marks (span_of table from to None))
marks_of _ = None

-- `F`
abbrev pub aside_of : (others : List (List ℕ)) → Option WrittenCommandOf
aside_of (feed ∷ []) = Some (Aside feed)
aside_of _ = None

-- what the words of a command say, if there are as many as it has
abbrev pub command_of : (first : List ℕ) → (others : List (List ℕ)) → Option WrittenCommandOf
command_of first others =
    if bytes_eq first (codes "deliver") then deliver_of others
    else if bytes_eq first (codes "drain") then alone Drain others
    else if bytes_eq first (codes "query") then option_map Query (items_of others)
    else if bytes_eq first (codes "marks") then marks_of others
    else if bytes_eq first (codes "aside") then aside_of others
    else if bytes_eq first (codes "reclaim") then alone Reclaim others
    else if bytes_eq first (codes "end") then alone End others else None
