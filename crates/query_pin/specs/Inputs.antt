-- Versions of partitions, as claims and pins name them.
use Rattle.std.specs.Prelude.{Bool, ◌&&◌, ◌==◌, List}
use Rattle.std.specs.List.{list_any}
use Rattle.std.specs.Ordering.{nat_cmp, ordering_then}
use Rattle.std.specs.declared.cmp.Ordering.{Ordering}
use Rattle.desc_types.specs.Keys.{key_cmp}
use Rattle.view_meaning.specs.Partitions.{is_key}
use Rattle.query_pin.specs.declared.input.Input.{Input}

-- whether two versions are the same
abbrev pub is_version : Input → Input → Bool
is_version read other = is_key read.key other.key && (other.version == read.version)

-- whether a version is one of a list
abbrev pub is_read : List Input → Input → Bool
is_read versions read = list_any (is_version read) versions

-- versions go by their partitions, then by number
abbrev pub input_cmp : Input → Input → Ordering
input_cmp read other =
    ordering_then (key_cmp read.key other.key) (nat_cmp read.version other.version)
