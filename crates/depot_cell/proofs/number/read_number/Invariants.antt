-- the bytes so far are digits, and the value is their number
use Rattle.std.proofs.Common.{◌≡◌, true, take}
use Rattle.std.specs.List.{list_all}
use Rattle.std.specs.Char.{is_ascii_digit}
use Rattle.depot_cell.specs.Numbers.{value_from}
use Rattle.depot_cell.proofs.number.read_number.Given as goal

abbrev pub invariant-loop-byte : goal.invariant-loop-byte
invariant-loop-byte l = record {
  digits : list_all is_ascii_digit (take l.byte-index l.bytes) ≡ true;
  exact : l.value ≡ value_from 0 (take l.byte-index l.bytes);
}
