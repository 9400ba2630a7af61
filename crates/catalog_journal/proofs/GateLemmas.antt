-- What stands at a gate.
use Rattle.std.proofs.Common.{◌≡◌, ℕ, suc, ◌+◌, ◌-◌, ◌<◌, ◌≤◌, ◌≢◌, List, [], ◌∷◌, length, take, drop}
use Rattle.std.proofs.Common.{get_or, sym, ◌∙◌, ap, subst, arith}
use Rattle.std.proofs.lemmas.List.{take_all}
use Rattle.catalog_journal.specs.declared.gate.Gate.{Gate}
use Rattle.catalog_journal.specs.declared.gate.Gate.TheVariants.{Open, Closed, Cut}
use Rattle.catalog_journal.specs.Reading.{read_records, size_in, with_first}
use Rattle.catalog_journal.specs.Gates.{IsGate, IsOpen}
use Rattle.catalog_journal.proofs.ReadLemmas.{read_records-closed, read_records-cut}
use Rattle.catalog_journal.proofs.ReadLemmas.{read_records-none, read_records-open}

-- an open gate before a whole record and a gate
pub IsGate-open : (rest : List ℕ) (len : ℕ) → len ≡ size_in rest → 4 + len < length rest
    → IsGate (1 ∷ rest) (Open len)
IsGate-open rest len is long = subst (λ (n : ℕ). IsOpen (1 ∷ rest) n) (sym is) (record {
  whole = omega (arith, long, is);
  reads = λ most place. read_records-open most place rest (omega (arith, long, is))
      ∙ ap (λ (n : ℕ). with_first (take (size_in rest) (drop 4 rest))
      (read_records most (place + (5 + size_in rest)) (drop n (1 ∷ rest))))
      (next (size_in rest));
})
  where
    next : (size : ℕ) → suc (4 + size) ≡ 5 + size
    next size = omega arith

-- and before less
pub IsGate-cut : (rest : List ℕ) → length rest ≤ 4 + size_in rest → IsGate (1 ∷ rest) Cut
IsGate-cut rest short = λ most place. read_records-cut most place rest short

-- less than a length
pub IsGate-short : (rest : List ℕ) → length rest < 4 → IsGate (1 ∷ rest) Cut
IsGate-short rest short = IsGate-cut rest (omega (arith, short))

-- no gate
pub IsGate-none : IsGate [] Cut
IsGate-none = λ most place. read_records-none (suc most) place

pub IsGate-empty : (bytes : List ℕ) → length bytes < 1 → IsGate bytes Cut
IsGate-empty [] short = IsGate-none
IsGate-empty (gate ∷ rest) short = absurd (omega (arith, short))

-- the gate, and what stands after it
pub IsGate-split : (bytes : List ℕ) (gate : Gate) → 1 ≤ length bytes
    → IsGate (get_or bytes 0 0 ∷ take (length bytes - 1) (drop 1 bytes)) gate → IsGate bytes gate
IsGate-split [] gate some is = absurd (omega (arith, some))
IsGate-split (first ∷ rest) gate some is =
    subst (λ (l : List ℕ). IsGate (first ∷ l) gate) (take_all (length (first ∷ rest) - 1) rest (omega arith)) is

-- a gate that is not open
pub IsGate-closed : (gate : ℕ) (rest : List ℕ) → gate ≢ 1 → IsGate (gate ∷ rest) Closed
IsGate-closed gate rest closed = λ most place. read_records-closed most place gate rest closed
