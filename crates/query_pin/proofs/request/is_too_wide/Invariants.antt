use Rattle.std.proofs.Common.{◌≡◌, ◌≤◌, ◌+◌, drop}
use Rattle.query_pin.specs.Requests.{PARTS_LIMIT, count_all}
use Rattle.query_pin.proofs.request.is_too_wide.Given as goal

-- the count, and what the items to come ask for, are the whole
abbrev pub invariant-loop-item : goal.invariant-loop-item
invariant-loop-item l = record {
  whole : l.count + count_all l.served.desc (drop l.item-index l.items)
      ≡ count_all l.served.desc l.items;
  few : l.count ≤ PARTS_LIMIT;
}
