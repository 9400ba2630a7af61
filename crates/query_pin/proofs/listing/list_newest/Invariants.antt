-- The versions to come are put in beside those that are in.
use Rattle.std.proofs.Common.{◌≡◌}
use Rattle.std.specs.List.Sorted.{IsStrictlySortedBy}
use Rattle.std.specs.Map.{keys_of}
use Rattle.desc_types.specs.Keys.{key_cmp}
use Rattle.query_pin.specs.declared.input.Input.{Input}
use Rattle.query_pin.specs.Kept.{entry_at, newest_at, newest_entry_or}
use Rattle.query_pin.proofs.listing.list_newest.Given as goal

abbrev pub invariant-loop-key : goal.invariant-loop-key
invariant-loop-key l = record {
  rising : IsStrictlySortedBy key_cmp (keys_of l.key-iterator);
  whole : (read : Input)
      → newest_entry_or (newest_at l.key-iterator read.key) read.version
      (entry_at l.held.entries read)
      ≡ newest_entry_or (newest_at l.newest.entries read.key) read.version
      (entry_at l.fn.held.entries read);
}
