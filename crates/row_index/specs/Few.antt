-- Values that stand in place, or in an allocation.
use Rattle.std.specs.Prelude.{List, []}
use Rattle.row_index.specs.declared.few.Items.{Items}
use Rattle.row_index.specs.declared.few.Items.TheVariants.{Zero, One, Two, Three, Many}

-- the values, in their order
abbrev pub items_of : {T : Type 0} → Items T → List T
items_of Zero = []
items_of (One items) = items
items_of (Two items) = items
items_of (Three items) = items
items_of (Many items) = items.items
