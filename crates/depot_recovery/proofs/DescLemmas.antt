-- The body of record 0 is read as the description that it was made of.
use Rattle.std.proofs.Common.{◌≡◌, ◌++◌, ◌∙◌, Bool, true, ℕ, List, Ok, ap, bytes_eq, refl}
use Rattle.std.proofs.lemmas.Slice.Eq.{bytes_eq-Decides}
use Rattle.desc_types.specs.Accepted.{IsAccepted}
use Rattle.desc_types.specs.Descriptions.{DescOf}
use Rattle.table_desc.specs.Canonical.{canonical}
use Rattle.table_desc.specs.Described.{described}
use Rattle.table_desc.proofs.AgainLemmas.{declared-again}
use Rattle.depot_recovery.specs.Depots.{HEAD, first_body}
use Rattle.depot_recovery.specs.Found.{checked, desc_in, if_canonical}

-- a value that passes its test is the answer
pub checked-passed : {A : Type 0} (gate : ℕ) (passes : Bool) (value : A) → passes ≡ true
    → checked gate passes value ≡ Ok value
checked-passed gate passes value passed = rw passed refl

-- a text after the head that declares a description, and is its canonical one
desc_in-text : (text : List ℕ) (desc : DescOf) → described text ≡ Ok desc
    → bytes_eq text (canonical desc) ≡ true → desc_in (HEAD ++ text) ≡ Ok desc
desc_in-text text desc declared same =
    ap (if_canonical text) declared ∙ checked-passed 0 (bytes_eq text (canonical desc)) desc same

-- the description of a depot
pub desc_in-first_body : (desc : DescOf) → IsAccepted desc → desc_in (first_body desc) ≡ Ok desc
desc_in-first_body desc accepted =
    desc_in-text (canonical desc) desc (declared-again desc accepted)
    ((bytes_eq-Decides (canonical desc) (canonical desc)).1 refl)
