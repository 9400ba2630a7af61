-- Histories of partitions as entries change them.
use Rattle.std.proofs.Common.{◌≡◌, ℕ, ◌+◌, ◌<◌, refl, inl, inr, arith}
use Rattle.std.specs.Prelude.{Bool, true, false, ◌==◌, ◌⊎◌, if◌then◌else◌}
use Rattle.std.proofs.lemmas.Bool.{eq-eqb, ne_eqb}
use Rattle.stale_test.specs.declared.history.History.{History}
use Rattle.stale_test.specs.Histories.{AreBefore, AreWithin, Histories, IsBefore}
use Rattle.stale_test.specs.Histories.{installed, raised}

-- an entry changes a history once
pub raised-twice : (entry : ℕ) (history : History)
    → raised entry (raised entry history) ≡ raised entry history
raised-twice entry history = at (history.changed == entry) refl
  where
    at : (same : Bool) → (history.changed == entry) ≡ same
        → raised entry (raised entry history) ≡ raised entry history
    at true same = rw (same, same) refl
    at false other = rw (other, eq-eqb entry entry refl) refl

-- a history that was changed by this entry, or comes from those before, may be changed by it
pub raised-enough : (entry : ℕ) (history : History) (again : Bool) → IsBefore entry history
    → ((if again then raised entry history else history).changed ≡ entry)
    ⊎ ((if again then raised entry history else history).version < entry)
raised-enough entry history true before =
    inl (rw (ne_eqb history.changed entry (λ same. omega (arith, before.changed))) refl)
raised-enough entry history false before = inr before.version

-- what an entry after all those of a history makes of it: its version is one more, and this entry
-- is the one that changed it last
pub record Counts (entry : ℕ) (change : History → History) : Type 0 where
  pub version : (history : History) → IsBefore entry history
      → (change history).version ≡ history.version + 1
  pub changed : (history : History) → IsBefore entry history → (change history).changed ≡ entry

-- a load counts
pub Counts-raised : (entry : ℕ) → Counts entry (raised entry)
Counts-raised entry = record {
  version = λ history before.
      rw (ne_eqb history.changed entry (λ same. omega (arith, before.changed))) refl;
  changed = λ history before.
      rw (ne_eqb history.changed entry (λ same. omega (arith, before.changed))) refl;
}

-- so does an install
pub Counts-installed : (entry at : ℕ) → Counts entry (installed entry at)
Counts-installed entry at = record {
  version = (Counts-raised entry).version;
  changed = (Counts-raised entry).changed;
}

-- what was enough for histories is before the next entry
pub AreBefore-next : (entries : ℕ) (parts : Histories) → AreWithin entries parts
    → AreBefore (entries + 1) parts
AreBefore-next entries parts within key = record {
  version = omega (arith, (within key).version);
  changed = omega (arith, (within key).changed);
}

-- it leaves the place of the last install
pub raised-upto : (entry : ℕ) (history : History) → (raised entry history).upto ≡ history.upto
raised-upto entry history = at (history.changed == entry)
  where
    at : (same : Bool) → (if same then history else record {
      version = history.version + 1;
      changed = entry;
      upto = history.upto;
    }).upto ≡ history.upto
    at true = refl
    at false = refl
