-- The first feeds and tables of a description, and the names that are found again among them.
use Rattle.std.proofs.Common.{◌≡◌, ◌∙◌, ℕ, zero, suc, ◌+◌, ◌<◌, ◌≤◌, List, [], ◌∷◌, Some, None, Ok}
use Rattle.std.proofs.Common.{Bool, true, false, length, map, take, get_or, refl, ap, arith, sym}
use Rattle.std.specs.Prelude.{position, slice_get}
use Rattle.std.specs.Str.{bytes_eq}
use Rattle.std.proofs.lemmas.Bool.{le-ltb, lt-ltb}
use Rattle.std.proofs.lemmas.List.{get_or-take, length-take, take_all}
use Rattle.std.proofs.lemmas.List.Sums.{position_or_len_is}
use Rattle.std.proofs.lemmas.Option.{get_or_from_slice_get, slice_get-get_or, slice_get_within}
use Rattle.std.proofs.lemmas.Slice.Eq.{bytes_eq-Decides}
use Rattle.desc_types.specs.declared.table.Column.{Column}
use Rattle.desc_types.specs.declared.table.Feed.{Feed}
use Rattle.desc_types.specs.Descriptions.{DescOf}
use Rattle.desc_types.specs.Tables.{TableOf}
use Rattle.desc_types.specs.Sources.{table_width}
use Rattle.desc_types.specs.Columns.{are_different}
use Rattle.desc_types.specs.Lookups.{find_column, find_feed, find_table, find_type}
use Rattle.desc_types.specs.Lookups.{source_columns, source_width, table_columns}
use Rattle.desc_types.specs.Accepted.{IsAccepted, column_names, column_type}
use Rattle.desc_types.proofs.ListLemmas.{list_any-map, list_any-none}
use Rattle.table_desc.specs.Canonical.{column_name, feed_line, feed_name, table_line, table_name}
use Rattle.table_desc.specs.Described.{with_written}
use Rattle.table_desc.proofs.KeptLemmas.{All-there}
use Rattle.table_desc.proofs.NamesLemmas.{different-parts}

-- the first feeds and the first tables of a description
abbrev pub prefix : DescOf → (feeds tables : ℕ) → DescOf
prefix desc feeds tables = record {
  feeds = take feeds desc.feeds;
  tables = take tables desc.tables;
}

-- each line of a description declares its feed or table after those before it
pub record DeclaresEach (desc : DescOf) : Type 0 where
  pub feed : (number : ℕ) (feed : Feed) → slice_get desc.feeds number ≡ Some feed
      → with_written (prefix desc number 0) (Some (feed_line feed))
      ≡ Ok (prefix desc (number + 1) 0)
  pub table : (number : ℕ) (table : TableOf) → slice_get desc.tables number ≡ Some table
      → with_written (prefix desc (length desc.feeds) number) (Some (table_line desc table))
      ≡ Ok (prefix desc (length desc.feeds) (number + 1))

-- an element of a list stands among its first ones
pub slice_get-take : {X : Type 0} (xs : List X) (many place : ℕ) → place < many
    → slice_get (take many xs) place ≡ slice_get xs place
slice_get-take xs zero place within = absurd (omega (arith, within))
slice_get-take [] (suc many) place within = refl
slice_get-take (x ∷ xs) (suc many) zero within = refl
slice_get-take (x ∷ xs) (suc many) (suc place) within =
    slice_get-take xs many place (omega (arith, within))

-- at a place in a list there is an element
pub record IsThere {X : Type 0} (xs : List X) (place : ℕ) : Type 0 where
  pub item : X
  pub there : slice_get xs place ≡ Some item

pub IsThere-within : {X : Type 0} (xs : List X) (place : ℕ) → place < length xs → IsThere xs place
IsThere-within [] place within = absurd (omega (arith, within))
IsThere-within (x ∷ xs) place within = record {
  item = get_or (x ∷ xs) place x;
  there = slice_get-get_or (x ∷ xs) place x within;
}

-- the place before which a test fails, and at which it holds
pub position-first : {X : Type 0} (test : X → Bool) (xs : List X) (place : ℕ) (default : X)
    → place < length xs
    → ((earlier : ℕ) → earlier < place → test (get_or xs earlier default) ≡ false)
    → test (get_or xs place default) ≡ true → position test xs ≡ Some place
position-first test xs place default within fails passes =
    rw (
      position_or_len_is test xs place default (omega (arith, within)) fails (λ _. passes),
      lt-ltb place (length xs) within,
    ) refl

-- no place, where a test fails at each
pub position-fails : {X : Type 0} (test : X → Bool) (xs : List X) (default : X)
    → ((place : ℕ) → place < length xs → test (get_or xs place default) ≡ false)
    → position test xs ≡ None
position-fails test xs default fails =
    rw (
      position_or_len_is test xs (length xs) default (omega arith) fails
          (λ within. absurd (omega (arith, within))),
      le-ltb (length xs) (length xs) (omega arith),
    ) refl

-- of different names none is a later one
earlier-differs : {X : Type 0} (name : X → List ℕ) (items : List X) (place earlier : ℕ) (item : X)
    → are_different (map name items) ≡ true → slice_get items place ≡ Some item → earlier < place
    → bytes_eq (name (get_or items earlier item)) (name item) ≡ false
earlier-differs name [] place earlier item different there before = absurd cc
earlier-differs name (first ∷ items) zero earlier item different there before =
    absurd (omega (arith, before))
earlier-differs name (first ∷ items) (suc place) zero item different there before =
    let parts = different-parts (name first) (map name items) different in
    All-there (λ other. bytes_eq (name first) (name other) ≡ false) items place item
    (list_any-none (λ other. bytes_eq (name first) (name other)) items
    (sym (list_any-map name (bytes_eq (name first)) items) ∙ parts.0)) there
earlier-differs name (first ∷ items) (suc place) (suc earlier) item different there before =
    let parts = different-parts (name first) (map name items) different in
    earlier-differs name items place earlier item parts.1 there (omega (arith, before))

-- a text passes the test with itself
bytes_eq-same : (text : List ℕ) → bytes_eq text text ≡ true
bytes_eq-same text = (bytes_eq-Decides text text).1 refl

-- of different names one is found at its place, among the first ones too
pub position-take : {X : Type 0} (name : X → List ℕ) (items : List X) (many place : ℕ) (item : X)
    → are_different (map name items) ≡ true → slice_get items place ≡ Some item → place < many
    → position (λ x. bytes_eq (name x) (name item)) (take many items) ≡ Some place
position-take name items many place item different there within =
    let inside = slice_get_within items place item there in
    position-first (λ x. bytes_eq (name x) (name item)) (take many items) place item
    (rw (length-take many items) (omega (arith, inside, within)))
    (λ earlier before. rw (get_or-take many items earlier item (omega (arith, within, before)))
    (earlier-differs name items place earlier item different there before))
    (rw (
      get_or-take many items place item within,
      get_or_from_slice_get items place item item there,
    ) (bytes_eq-same (name item)))

pub position-named : {X : Type 0} (name : X → List ℕ) (items : List X) (place : ℕ) (item : X)
    → are_different (map name items) ≡ true → slice_get items place ≡ Some item
    → position (λ x. bytes_eq (name x) (name item)) items ≡ Some place
position-named name items place item different there =
    ap (position (λ x. bytes_eq (name x) (name item)))
    (sym (take_all (length items) items (omega arith)))
    ∙ position-take name items (length items) place item different there
    (slice_get_within items place item there)

-- and none before it has its name
pub position-before : {X : Type 0} (name : X → List ℕ) (items : List X) (place : ℕ) (item : X)
    → are_different (map name items) ≡ true → slice_get items place ≡ Some item
    → position (λ x. bytes_eq (name x) (name item)) (take place items) ≡ None
position-before name items place item different there =
    position-fails (λ x. bytes_eq (name x) (name item)) (take place items) item
    (λ earlier within.
    let before : earlier < place =
    omega (arith, length-take place items, slice_get_within items place item there, within) in
    rw (get_or-take place items earlier item before)
    (earlier-differs name items place earlier item different there before))

-- the feeds of an accepted description are found by their names
pub find_feed-prefix : (desc : DescOf) (tables number : ℕ) → IsAccepted desc
    → number < length desc.feeds
    → find_feed (prefix desc (length desc.feeds) tables) (feed_name desc number) ≡ Some number
find_feed-prefix desc tables number accepted within =
    let feed = IsThere-within desc.feeds number within in
    rw feed.there (position-take (λ (feed : Feed). feed.name) desc.feeds (length desc.feeds) number
    feed.item accepted.feed_names.different feed.there within)

-- so are its tables
pub find_table-prefix : (desc : DescOf) (feeds tables number : ℕ) → IsAccepted desc
    → number < tables → tables ≤ length desc.tables
    → find_table (prefix desc feeds tables) (table_name desc number) ≡ Some number
find_table-prefix desc feeds tables number accepted before within =
    let table = IsThere-within desc.tables number (omega (arith, before, within)) in
    rw table.there (position-take (λ (table : TableOf). table.name) desc.tables tables number
    table.item accepted.table_names.different table.there before)

-- before a feed none has its name
pub find_feed-next : (desc : DescOf) (tables number : ℕ) (feed : Feed) → IsAccepted desc
    → slice_get desc.feeds number ≡ Some feed
    → find_feed (prefix desc number tables) feed.name ≡ None
find_feed-next desc tables number feed accepted there =
    position-before (λ (feed : Feed). feed.name) desc.feeds number feed
    accepted.feed_names.different there

-- before a table none has its name
pub find_table-next : (desc : DescOf) (feeds number : ℕ) (table : TableOf) → IsAccepted desc
    → slice_get desc.tables number ≡ Some table
    → find_table (prefix desc feeds number) table.name ≡ None
find_table-next desc feeds number table accepted there =
    position-before (λ (table : TableOf). table.name) desc.tables number table
    accepted.table_names.different there

-- the columns of an earlier table, by its name and by its number
pub source_columns-prefix : (desc : DescOf) (feeds tables number : ℕ) → IsAccepted desc
    → number < tables → tables ≤ length desc.tables
    → source_columns (prefix desc feeds tables) (table_name desc number)
    ≡ table_columns desc number
source_columns-prefix desc feeds tables number accepted before within =
    rw (
      find_table-prefix desc feeds tables number accepted before within,
      slice_get-take desc.tables tables number before,
    ) refl

-- its width, likewise
pub source_width-prefix : (desc : DescOf) (feeds tables number : ℕ) → IsAccepted desc
    → number < tables → tables ≤ length desc.tables
    → source_width (prefix desc feeds tables) (table_name desc number) ≡ table_width desc number
source_width-prefix desc feeds tables number accepted before within =
    let table = IsThere-within desc.tables number (omega (arith, before, within)) in
    rw (
      find_table-prefix desc feeds tables number accepted before within,
      slice_get-take desc.tables tables number before,
      table.there,
    ) refl

-- the columns of a table of an accepted description go by different names
pub table_columns-different : (desc : DescOf) (number : ℕ) → IsAccepted desc
    → number < length desc.tables
    → are_different (column_names (table_columns desc number)) ≡ true
table_columns-different desc number accepted within =
    let table = IsThere-within desc.tables number within in
    rw table.there (accepted.each number table.item table.there).different

-- a column is found by its name
pub find_column-named : (columns : List Column) (number : ℕ)
    → are_different (column_names columns) ≡ true → number < length columns
    → find_column columns (column_name columns number) ≡ Some number
find_column-named columns number different within =
    let column = IsThere-within columns number within in
    rw column.there (position-named (λ (column : Column). column.name) columns number column.item
    different column.there)

-- so is its type
pub find_type-named : (columns : List Column) (number : ℕ)
    → are_different (column_names columns) ≡ true → number < length columns
    → find_type columns (column_name columns number) ≡ column_type columns number
find_type-named columns number different within =
    rw (find_column-named columns number different within) refl
