-- the description so far, with the lines that are left, is that of the text
use Rattle.std.proofs.Common.{◌≡◌, ◌≤◌, ◌+◌, length}
use Rattle.desc_lines.specs.Texts.{lines_of}
use Rattle.table_desc.specs.Described.{described, with_lines}
use Rattle.table_desc.proofs.describing.read_desc.Given as goal

abbrev pub invariant-loop-end : goal.invariant-loop-end
invariant-loop-end l = record {
  described : with_lines l.number l.accepted.desc (lines_of l.rest) ≡ described l.bytes;
  within : l.number + length l.rest ≤ length l.bytes + 1;
}

abbrev pub decreases-loop-end : goal.decreases-loop-end
decreases-loop-end l = length l.rest
