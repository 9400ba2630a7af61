-- the text so far has the lines of the first feeds
use Rattle.std.proofs.Common.{◌≡◌, flat_map, map, take}
use Rattle.desc_lines.specs.LineTexts.{line_text}
use Rattle.table_desc.specs.Canonical.{feed_line}
use Rattle.table_desc.proofs.writing.feeds_text.Given as goal

abbrev pub invariant-loop-feed : goal.invariant-loop-feed
invariant-loop-feed l =
    l.text.items ≡ flat_map line_text (map feed_line (take l.feed-index l.feeds))
