-- General facts on lists, options and texts.
use Rattle.std.proofs.Common.{◌≡◌, ℕ, ◌++◌, List, [], ◌∷◌, Option, Some, None, Bool, true, false}
use Rattle.std.proofs.Common.{bytes_eq, refl, sym}
use Rattle.std.specs.Prelude.{if◌then◌else◌, option_map}
use Rattle.std.specs.List.{AllByRecursion}
use Rattle.std.specs.Cmp.Lexicographic.{same_text}
use Rattle.std.proofs.lemmas.Option.{same_Some}

-- what is there under a test that passes is there
pub if-some : {X : Type 0} (test : Bool) (found : Option X) (x : X)
    → (if test then found else None) ≡ Some x → found ≡ Some x
if-some true found x there = there
if-some false found x there = absurd cc

-- and the test passes
pub if-passed : {X : Type 0} (test : Bool) (found : Option X) (x : X)
    → (if test then found else None) ≡ Some x → test ≡ true
if-passed true found x there = refl
if-passed false found x there = absurd cc

-- what is there by a word is there if the word is that keyword, or else without it
pub if-word : {X P : Type 0} (word keyword : List ℕ) (found others : Option X) (x : X)
    → (if bytes_eq word keyword then found else others) ≡ Some x
    → (word ≡ keyword → found ≡ Some x → P) → (others ≡ Some x → P) → P
if-word {X} {P} word keyword found others x there here else_ =
    by_test (bytes_eq word keyword) (λ same. same_text word keyword (sym same)) there
  where
    by_test : (test : Bool) → (test ≡ true → word ≡ keyword)
        → (if test then found else others) ≡ Some x → P
    by_test true same there = here (same refl) there
    by_test false same there = else_ there

-- what a map answers comes of something that is there
pub option_map-some : {A B P : Type 0} (f : A → B) (o : Option A) (y : B)
    → option_map f o ≡ Some y → ((x : A) → o ≡ Some x → f x ≡ y → P) → P
option_map-some f None y there go = absurd cc
option_map-some f (Some x) y there go = go x refl (same_Some _ _ there)

-- what is so of each item of two lists is so of each of both
pub each-append : {X : Type 0} (P : X → Type 0) (front back : List X) → AllByRecursion P front
    → AllByRecursion P back → AllByRecursion P (front ++ back)
each-append P [] back here there = there
each-append P (first ∷ front) back here there =
    (here.0, each-append P front back here.1 there)
