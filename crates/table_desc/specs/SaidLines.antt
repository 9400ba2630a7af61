-- Lines that words of a line say, as those do that were read off a text.
use Rattle.std.specs.Prelude.{⊤}
use Rattle.std.specs.List.{AllByRecursion}
use Rattle.desc_lines.specs.Whole.{IsWholeKind}
use Rattle.desc_lines.specs.Written.{WrittenCondOf, WrittenKindOf, WrittenLineOf}
use Rattle.desc_lines.specs.Written.{Filter, FeedLine, TableLine}
use Rattle.desc_types.specs.Accepted.{IsLineWord}

-- the literals of what fills a table are words of a line
abbrev pub HasSaidLiterals : WrittenKindOf → Type 0
HasSaidLiterals (Filter source conds keep) =
    AllByRecursion (λ (cond : WrittenCondOf). IsLineWord cond.literal) conds
HasSaidLiterals _ = ⊤

-- what fills a table, as words of a line say it
pub record IsSaidKind (kind : WrittenKindOf) : Type 0 where
  pub whole : IsWholeKind kind
  pub literals : HasSaidLiterals kind

-- a line that words of a line say
abbrev pub IsSaidLine : WrittenLineOf → Type 0
IsSaidLine (FeedLine name header) = ⊤
IsSaidLine (TableLine table) = IsSaidKind table.kind
