-- What contracts see of a command: a list in place of a request.
use Rattle.std.specs.Prelude.{ℕ, List}
use Rattle.view_meaning.specs.declared.request.Item.{Item}

-- what a line asks for: nothing, if it is empty or a comment; to load the body that follows it; to
-- compute all that is not settled; an answer; marks; rows that were set aside; to forget versions
-- that nothing needs; to end
pub data CommandOf : Type 0 where
  Nothing : CommandOf
  Deliver : (feed number closes size : ℕ) → CommandOf
  Drain : CommandOf
  Query : (items : List Item) → CommandOf
  Marks : (items : List Item) → CommandOf
  Aside : (feed : ℕ) → CommandOf
  Reclaim : CommandOf
  End : CommandOf
