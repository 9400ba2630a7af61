use Rattle.table_desc.proofs.NameLemmas.{IsShortText-name}
use Rattle.table_desc.proofs.parts.name_text.Goals as goal

pub from_bytes-requires : goal.from_bytes-requires
from_bytes-requires c = record { short = IsShortText-name _ c.requires.named }
