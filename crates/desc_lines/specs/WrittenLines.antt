-- The value of a line.
use Rattle.desc_lines.specs.declared.line.WrittenLine.{WrittenLine}
use Rattle.desc_lines.specs.declared.line.WrittenLine.TheVariants as line
use Rattle.desc_lines.specs.Written.{WrittenLineOf, FeedLine, TableLine}

-- the same line with bytes and lists
abbrev pub written_line : WrittenLine → WrittenLineOf
written_line (line.Feed name header) = FeedLine name.now header
written_line (line.Table table) = TableLine table
