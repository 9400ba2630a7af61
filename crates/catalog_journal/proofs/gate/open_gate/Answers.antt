-- The length is that which the four bytes spell.
use Rattle.std.proofs.Common.{◌≡◌, ℕ, ◌-◌, length, drop, List, arith}
use Rattle.std.proofs.lemmas.List.{get_or-take, length-drop, length-take}
use Rattle.catalog_journal.specs.Reading.{size_in}
use Rattle.catalog_journal.proofs.GateLemmas.{IsGate-cut, IsGate-open, IsGate-short}
use Rattle.catalog_journal.proofs.gate.open_gate.Goals as goal

pub returns-in_default : goal.returns-in_default
returns-in_default c = record { exact = IsGate-short c.args.rest.now c.in_default.len_below }

pub returns-then-len-more : goal.returns-then-len-more
returns-then-len-more c =
    let rest : List ℕ = c.args.rest.now in
    record {
      exact = IsGate-open rest c.from_be_bytes-len.result
          (omega (
            arith,
            c.from_be_bytes-len.ensures,
            get_or-take 4 rest 0 0 (omega arith),
            get_or-take 4 rest 1 0 (omega arith),
            get_or-take 4 rest 2 0 (omega arith),
            get_or-take 4 rest 3 0 (omega arith),
          ))
          (omega (arith, c.if-len-more.true, length-take (length rest - 4) (drop 4 rest), length-drop 4 rest));
    }

pub returns-else-len-more : goal.returns-else-len-more
returns-else-len-more c =
    let rest : List ℕ = c.args.rest.now in
    let is : c.from_be_bytes-len.result ≡ size_in rest =
    omega (
      arith,
      c.from_be_bytes-len.ensures,
      get_or-take 4 rest 0 0 (omega arith),
      get_or-take 4 rest 1 0 (omega arith),
      get_or-take 4 rest 2 0 (omega arith),
      get_or-take 4 rest 3 0 (omega arith),
    ) in
    record {
      exact = IsGate-cut rest (omega (
        arith,
        is,
        c.if-len-more.false,
        length-take (length rest - 4) (drop 4 rest),
        length-drop 4 rest,
      ));
    }
