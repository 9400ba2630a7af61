-- The value of what fills a table.
use Rattle.std.specs.Prelude.{map}
use Rattle.desc_lines.specs.declared.kind.WrittenKind.{WrittenKind}
use Rattle.desc_lines.specs.declared.kind.WrittenKind.TheVariants as kind
use Rattle.desc_lines.specs.Written.{WrittenKindOf, Raw, Filter, Group, Join}

-- the same kind with bytes and lists
abbrev pub written_kind : WrittenKind → WrittenKindOf
written_kind (kind.Raw feed time columns) = Raw feed.now time.now columns.items
written_kind (kind.Filter source conds keep) =
    Filter source conds.items (map (λ word. word.now) keep.items)
written_kind (kind.Group source keys aggs) =
    Group source (map (λ word. word.now) keys.items) aggs.items
written_kind (kind.Join left right on) = Join left right on.items
