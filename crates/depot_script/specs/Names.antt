-- The names of feeds and tables, by their numbers.
use Rattle.std.specs.Prelude.{ℕ, List, [], Option, Some, None, slice_get}
use Rattle.desc_types.specs.declared.table.Feed.{Feed}
use Rattle.desc_types.specs.Descriptions.{DescOf}
use Rattle.desc_types.specs.Tables.{TableOf}

-- the name of a feed, and nothing if there is none
abbrev pub name_of_feed : Option Feed → List ℕ
name_of_feed None = []
name_of_feed (Some feed) = feed.name

-- the name of a table, and nothing if there is none
abbrev pub name_of : Option TableOf → List ℕ
name_of None = []
name_of (Some table) = table.name

-- the name of the feed with this number
abbrev pub feed_name : DescOf → ℕ → List ℕ
feed_name desc feed = name_of_feed (slice_get desc.feeds feed)

-- the name of the table with this number
abbrev pub table_name : DescOf → ℕ → List ℕ
table_name desc table = name_of (slice_get desc.tables table)
