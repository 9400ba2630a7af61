-- What is compared and hashed of a list of references is the list of what they point to.
use Rattle.std.proofs.Common.{◌≡◌, ◌∙◌, ℕ, ℤ, List, [], ◌∷◌, ◌++◌, length, refl, sym, ap, map}
use Rattle.std.specs.Prelude.{Bool, false, ◌&&◌, flat_map, nat_eq}
use Rattle.std.specs.Cmp.Lexicographic.{pointwise}
use Rattle.std.specs.Hash.{HashWrites, slice, usize}
use Rattle.std.specs.Ordering.{int_eq}
use Rattle.std.proofs.lemmas.List.{length-map}
use Rattle.depot_cell.specs.declared.cell.Cell.{Cell}
use Rattle.depot_cell.specs.declared.cell.Cell.TheVariants.{Int, Text}
use Rattle.depot_cell.specs.Cells.{same_cell}

-- lists are compared as what a function makes of their items
pub pointwise-map : {A B : Type 0} (of : A → B) (test : A → A → Bool) (on : B → B → Bool)
    → ((left right : A) → test left right ≡ on (of left) (of right)) → (left right : List A)
    → pointwise test left right ≡ pointwise on (map of left) (map of right)
pointwise-map of test on agree [] [] = refl
pointwise-map of test on agree [] (next ∷ right) = refl
pointwise-map of test on agree (first ∷ left) [] = refl
pointwise-map of test on agree (first ∷ left) (next ∷ right) =
    λ i. agree first next i && pointwise-map of test on agree left right i

-- the writes of a list of items are those of what a function makes of them
flat_map-map : {A B : Type 0} (of : A → B) (feed : B → HashWrites) (items : List A)
    → flat_map (λ item. feed (of item)) items ≡ flat_map feed (map of items)
flat_map-map of feed [] = refl
flat_map-map of feed (item ∷ items) =
    ap (λ (writes : HashWrites). feed (of item) ++ writes) (flat_map-map of feed items)

-- so are those of a slice
pub slice-map : {A B : Type 0} (of : A → B) (feed : B → HashWrites) (items : List A)
    → slice (λ item. feed (of item)) items ≡ slice feed (map of items)
slice-map of feed items =
    ap (λ (writes : HashWrites). usize (length items) ++ writes) (flat_map-map of feed items)
    ∙ ap (λ (many : ℕ). usize many ++ flat_map feed (map of items)) (sym (length-map items of))

-- a test of cells that is the same test in each of its cases
pub same_cell-cases : (test : Cell → Cell → Bool)
    → ((left right : ℤ) → test (Int left) (Int right) ≡ int_eq left right)
    → ((left : ℤ) (right : List ℕ) → test (Int left) (Text right) ≡ false)
    → ((left : List ℕ) (right : ℤ) → test (Text left) (Int right) ≡ false)
    → ((left right : List ℕ) → test (Text left) (Text right) ≡ pointwise nat_eq left right)
    → (left right : Cell) → test left right ≡ same_cell left right
same_cell-cases test ints mixed other texts (Int left) (Int right) = ints left right
same_cell-cases test ints mixed other texts (Int left) (Text right) = mixed left right
same_cell-cases test ints mixed other texts (Text left) (Int right) = other left right
same_cell-cases test ints mixed other texts (Text left) (Text right) = texts left right
