use Rattle.std.proofs.Common.{arith, rules}
use Rattle.std.proofs.lemmas.Str.{IsUtf8-from_is_utf8}
use Rattle.depot_cell.proofs.reading.read_text.Goals as goal

pub from_bytes-requires : goal.from_bytes-requires
from_bytes-requires c = record {
  short = record { utf8 = IsUtf8-from_is_utf8 _ (search rules); short = omega arith };
}
