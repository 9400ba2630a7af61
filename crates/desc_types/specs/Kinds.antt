-- The value of a table's kind.
use Rattle.desc_types.specs.declared.view.Kind.{Kind}
use Rattle.desc_types.specs.declared.view.Kind.TheVariants as kind
use Rattle.desc_types.specs.KindValues.{KindOf, Raw, Filter, Group, Join}

-- the same kind with lists
abbrev pub kind_of : Kind → KindOf
kind_of (kind.Raw feed time) = Raw feed time
kind_of (kind.Filter src conds keep) = Filter src conds.items keep.items
kind_of (kind.Group src keys aggs) = Group src keys.items aggs.items
kind_of (kind.Join left right on) = Join left right on.items
