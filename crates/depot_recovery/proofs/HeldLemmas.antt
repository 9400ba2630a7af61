-- What files hold of entries, each with its number and the length of its content: that of one file
-- (`HoldsContent`), and that of all, one after the other (`AllNumbered`).
use Rattle.std.proofs.Common.{◌≡◌, ◌+◌, ℕ, suc, List, [], ◌∷◌, Some, add-zero, arith, length}
use Rattle.std.proofs.Common.{one-add, refl, slice_get, subst}
use Rattle.std.specs.Prelude.{⊤}
use Rattle.depot_disk.specs.Image.{Image}
use Rattle.version_store.specs.Files.{HoldsFront}
use Rattle.view_meaning.specs.declared.journal.Entry.{Entry}
use Rattle.depot_recovery.specs.Images.{IsStored}

-- a file begins with these bytes, which are so many
pub record HoldsContent (image : Image) (file : ℕ) (bytes : List ℕ) (len : ℕ) : Type 0 where
  pub stated : length bytes ≡ len
  pub front : HoldsFront file bytes image

-- the file of the entry at a place does, of the length that is stated there
pub HoldsContent-stored : (lengths : List ℕ) (image : Image) (place : ℕ) (bytes : List ℕ) (len : ℕ)
    → IsStored lengths image place bytes → slice_get lengths place ≡ Some len
    → HoldsContent image (1 + place) bytes len
HoldsContent-stored lengths image place bytes len stored stated =
    let known = stored.stated in
    record { stated = cc (known, stated); front = rw one-add stored.file }

-- P holds of each entry, with its number and its length, where the first one has this number
abbrev pub AllNumbered : (P : (number : ℕ) → Entry → (len : ℕ) → Type 0) → (number : ℕ)
    → List Entry → (lengths : List ℕ) → Type 0
AllNumbered P number (next ∷ later) (len ∷ lengths) =
    P number next len × AllNumbered P (suc number) later lengths
AllNumbered P number _ _ = ⊤

-- it does if it holds at each place
pub AllNumbered-each : (P : (number : ℕ) → Entry → (len : ℕ) → Type 0) (number : ℕ)
    (entries : List Entry) (lengths : List ℕ)
    → ((place : ℕ) (next : Entry) (len : ℕ) → slice_get entries place ≡ Some next
    → slice_get lengths place ≡ Some len → P (number + place) next len)
    → AllNumbered P number entries lengths
AllNumbered-each P number [] lengths each = tt
AllNumbered-each P number (first ∷ later) [] each = tt
AllNumbered-each P number (first ∷ later) (size ∷ lengths) each = (
  subst (λ (at : ℕ). P at first size) (add-zero number) (each 0 first size refl refl),
  AllNumbered-each P (suc number) later lengths (λ place next len there stated.
      subst (λ (at : ℕ). P at next len) (omega arith) (each (suc place) next len there stated)),
)
