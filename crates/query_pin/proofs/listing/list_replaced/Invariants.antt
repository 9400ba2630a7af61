-- The versions to come are put in beside those that are in.
use Rattle.std.proofs.Common.{◌≡◌}
use Rattle.std.specs.List.Sorted.{IsStrictlySortedBy}
use Rattle.std.specs.Map.{keys_of}
use Rattle.std.specs.Option.{option_or}
use Rattle.query_pin.specs.declared.input.Input.{Input}
use Rattle.query_pin.specs.Inputs.{input_cmp}
use Rattle.query_pin.specs.Kept.{entry_at, replaced_at}
use Rattle.query_pin.proofs.listing.list_replaced.Given as goal

abbrev pub invariant-loop-read : goal.invariant-loop-read
invariant-loop-read l = record {
  rising : IsStrictlySortedBy input_cmp (keys_of l.read-iterator);
  whole : (read : Input)
      → option_or (replaced_at l.read-iterator read) (entry_at l.held.entries read)
      ≡ option_or (replaced_at l.replaced.entries read) (entry_at l.fn.held.entries read);
}
