-- What a reader and the bytes of what it reads have in common (`IsCodec`), and how larger ones have
-- it: one after the other (`IsCodec-then`), with a test (`IsCodec-checked`), in a list
-- (`IsCodec-cons`), and with nothing after it (`HasOneSpelling-whole`).
use Rattle.std.proofs.Common.{◌≡◌, ◌++◌, ◌∷◌, [], ◌<◌, ◌≤◌, ◌-◌, ◌∙◌, ℕ, List, Bool, true}
use Rattle.std.proofs.Common.{Fits, get_or, w8, false, suc, Ok, Err, length, refl, sym, ap, subst, arith, append_assoc, rules, tests}
use Rattle.std.specs.Prelude.{Result, ◌==◌, if◌then◌else◌, flat_map}
use Rattle.std.proofs.lemmas.List.{append-nil}
use Rattle.row_codec.specs.Reading.{Reader, ◌>>=◌, checked, last, whole, with_place}
use Rattle.row_codec.specs.Laws.{AreBytes, HasOneSpelling}

-- a value that was read stands at the front of the bytes
pub record IsFront {A : Type 0} (Is : A → Type 0) (spelled : A → List ℕ) (bytes : List ℕ)
    (value : A) (rest : List ℕ) : Type 0 where
  pub is : Is value
  pub parts : bytes ≡ spelled value ++ rest

-- the bytes of a value are read as it, and what is read has these bytes
pub record IsCodec {A : Type 0} (Is : A → Type 0) (spelled : A → List ℕ) (at : Reader A)
    : Type 0 where
  pub again : (value : A) (rest : List ℕ) → Is value → at (spelled value ++ rest) ≡ Ok (value, rest)
  pub alone : (bytes : List ℕ) (value : A) (rest : List ℕ) → AreBytes bytes
      → at bytes ≡ Ok (value, rest) → IsFront Is spelled bytes value rest

-- what two equal answers hold is the same
pub same_Ok : {X E : Type 0} {x y : X} → ◌≡◌ {A = Result X E} (Ok x) (Ok y) → x ≡ y
same_Ok same = cc

-- a step whose first part could be read
pub bind_is : {A B : Type 0} (first : Result A ℕ) (next : A → Result B ℕ) (value : A)
    → first ≡ Ok value → (first >>= next) ≡ next value
bind_is first next value e = rw e refl

-- a step that could be read: so could its first part
pub bind_ok : {A B : Type 0} (first : Result A ℕ) (next : A → Result B ℕ) (made : B)
    → (first >>= next) ≡ Ok made → (value : A) × (first ≡ Ok value) × (next value ≡ Ok made)
bind_ok (Ok value) next made e = (value, refl, e)
bind_ok (Err left) next made e = absurd cc

-- what was read with a test: the test passed
pub guard_ok : {A : Type 0} (test : Bool) (reading : Result A ℕ) (left : ℕ) (made : A)
    → (if test then reading else Err left) ≡ Ok made → (test ≡ true) × (reading ≡ Ok made)
guard_ok true reading left made e = (refl, e)
guard_ok false reading left made e = absurd cc

-- the bytes after the first ones are bytes
pub AreBytes-rest : (front rest : List ℕ) → AreBytes (front ++ rest) → AreBytes rest
AreBytes-rest [] rest good = good
AreBytes-rest (byte ∷ front) rest good = AreBytes-rest front rest (λ i. good (suc i))

-- a value that two values make, of which the bytes of the first stand before those of the second
pub record Joins {A B : Type 0} (IsA : A → Type 0) (a_bytes : A → List ℕ) (IsB : A → B → Type 0)
    (b_bytes : A → B → List ℕ) (bytes : List ℕ) (a : A) (b : B) : Type 0 where
  pub first : IsA a
  pub second : IsB a b
  pub parts : bytes ≡ a_bytes a ++ b_bytes a b

-- one after the other
pub IsCodec-then : {A B : Type 0} (IsA : A → Type 0) (a_bytes : A → List ℕ) (at : Reader A)
    (IsB : A → B → Type 0) (b_bytes : A → B → List ℕ) (next : A → Reader B)
    (Is : B → Type 0) (spelled : B → List ℕ)
    → IsCodec IsA a_bytes at → ((a : A) → IsCodec (IsB a) (b_bytes a) (next a))
    → ((b : B) → Is b → (a : A) × Joins IsA a_bytes IsB b_bytes (spelled b) a b)
    → ((a : A) (b : B) → IsA a → IsB a b → Is b × (spelled b ≡ a_bytes a ++ b_bytes a b))
    → IsCodec Is spelled (λ bytes. at bytes >>= λ a. next a.0 a.1)
IsCodec-then {A = A} {B = B} IsA a_bytes at IsB b_bytes next Is spelled first second split join =
    record { again = again; alone = alone }
  where
    again : (b : B) (rest : List ℕ) → Is b
        → (at (spelled b ++ rest) >>= λ a. next a.0 a.1) ≡ Ok (b, rest)
    again b rest is =
        let parts = split b is in
        let a = parts.0 in
        let bytes : spelled b ++ rest ≡ a_bytes a ++ (b_bytes a b ++ rest) =
        ap (λ front. front ++ rest) parts.1.parts ∙ append_assoc (a_bytes a) (b_bytes a b) rest in
        rw bytes (bind_is (at (a_bytes a ++ (b_bytes a b ++ rest))) (λ a. next a.0 a.1)
        (a, b_bytes a b ++ rest) (first.again a (b_bytes a b ++ rest) parts.1.first)
        ∙ (second a).again b rest parts.1.second)

    alone : (bytes : List ℕ) (b : B) (rest : List ℕ) → AreBytes bytes
        → (at bytes >>= λ a. next a.0 a.1) ≡ Ok (b, rest) → IsFront Is spelled bytes b rest
    alone bytes b rest good made =
        let steps = bind_ok (at bytes) (λ a. next a.0 a.1) (b, rest) made in
        let a = steps.0.0 in
        let after = steps.0.1 in
        let front = first.alone bytes a after good steps.1 in
        let left = AreBytes-rest (a_bytes a) after (subst AreBytes front.parts good) in
        let back = (second a).alone after b rest left steps.2 in
        let joined = join a b front.is back.is in
        record {
          is = joined.0;
          parts = front.parts ∙ ap (λ later. a_bytes a ++ later) back.parts
              ∙ sym (append_assoc (a_bytes a) (b_bytes a b) rest)
              ∙ ap (λ whole. whole ++ rest) (sym joined.1);
        }

-- a value that takes no bytes
pub IsCodec-done : {A : Type 0} (made : A)
    → IsCodec (λ value. value ≡ made) (λ _. []) (λ bytes. Ok (made, bytes))
IsCodec-done made = record {
  again = λ value rest is. rw is refl;
  alone = λ bytes value rest good read. record {
    is = ap (λ x. x.0) (sym (same_Ok read));
    parts = ap (λ x. x.1) (same_Ok read);
  };
}

-- the same values with the same bytes, said otherwise
pub IsCodec-same : {A : Type 0} (Is Said : A → Type 0) (spelled said : A → List ℕ) (at : Reader A)
    → IsCodec Is spelled at
    → ((value : A) → Said value → Is value × (said value ≡ spelled value))
    → ((value : A) → Is value → Said value × (said value ≡ spelled value))
    → IsCodec Said said at
IsCodec-same Is Said spelled said at codec to from = record {
  again = λ value rest is. rw (to value is).1 (codec.again value rest (to value is).0);
  alone = λ bytes value rest good read.
      let front = codec.alone bytes value rest good read in
      let same = from value front.is in
      record { is = same.0; parts = front.parts ∙ ap (λ whole. whole ++ rest) (sym same.1) };
}

-- a value, if it passes a test
abbrev tested : {A : Type 0} → (A → Bool) → List ℕ → A × List ℕ → Result (A × List ℕ) ℕ
tested test bytes value = if test value.0 then Ok value else Err (length bytes)

-- with a test
pub IsCodec-checked : {A : Type 0} (Is : A → Type 0) (spelled : A → List ℕ) (at : Reader A)
    (test : A → Bool) → IsCodec Is spelled at
    → IsCodec (λ value. Is value × (test value ≡ true)) spelled (checked test at)
IsCodec-checked {A = A} Is spelled at test codec = record { again = again; alone = alone }
  where
    again : (value : A) (rest : List ℕ) → Is value × (test value ≡ true)
        → checked test at (spelled value ++ rest) ≡ Ok (value, rest)
    again value rest is =
        bind_is (at (spelled value ++ rest)) (tested test (spelled value ++ rest)) (value, rest)
        (codec.again value rest is.0) ∙ rw is.1 refl

    alone : (bytes : List ℕ) (value : A) (rest : List ℕ) → AreBytes bytes
        → checked test at bytes ≡ Ok (value, rest)
        → IsFront (λ value. Is value × (test value ≡ true)) spelled bytes value rest
    alone bytes value rest good read =
        let steps = bind_ok (at bytes) (tested test bytes) (value, rest) read in
        let passed = guard_ok (test steps.0.0) (Ok steps.0) (length bytes) (value, rest) steps.2 in
        let front = codec.alone bytes value rest good (steps.1 ∙ passed.1) in
        record {
          is = (front.is, subst (λ x. test x.0 ≡ true) (same_Ok passed.1) passed.0);
          parts = front.parts;
        }

-- a first element, and others that may depend on it
abbrev pub IsCons : {A : Type 0} → (A → Type 0) → (A → List A → Type 0) → List A → Type 0
IsCons Is Others [] = ⊥
IsCons Is Others (value ∷ others) = Is value × Others value others

-- a list with this first element
abbrev IsTail : {A : Type 0} → (A → List A → Type 0) → A → List A → Type 0
IsTail {A = A} Others value list = (others : List A) × Others value others × (list ≡ value ∷ others)

-- the elements after the first
abbrev tail : {A : Type 0} → List A → List A
tail [] = []
tail (value ∷ others) = others

-- the elements after a first one
IsCodec-tail : {A : Type 0} (value : A) (Others : A → List A → Type 0) (spelled : A → List ℕ)
    (at : Reader (List A)) → IsCodec (Others value) (flat_map spelled) at
    → IsCodec (IsTail Others value) (λ list. flat_map spelled (tail list))
    (λ bytes. at bytes >>= λ others. Ok (value ∷ others.0, others.1))
IsCodec-tail value Others spelled at codec =
    IsCodec-then (Others value) (flat_map spelled) at (λ others list. list ≡ value ∷ others)
    (λ _ _. []) (λ others bytes. Ok (value ∷ others, bytes))
    (IsTail Others value) (λ list. flat_map spelled (tail list)) codec
    (λ others. IsCodec-done (value ∷ others))
    (λ list is. (
      is.0,
      record {
        first = is.1;
        second = is.2;
        parts = ap (λ l. flat_map spelled (tail l)) is.2 ∙ sym (append-nil (flat_map spelled is.0));
      },
    ))
    (λ others list is same. (
      (others, is, same),
      ap (λ l. flat_map spelled (tail l)) same ∙ sym (append-nil (flat_map spelled others)),
    ))

-- a list: its first element, and then the others
pub IsCodec-cons : {A : Type 0} (Is : A → Type 0) (Others : A → List A → Type 0)
    (spelled : A → List ℕ) (at : Reader A) (others_at : A → Reader (List A))
    → IsCodec Is spelled at
    → ((value : A) → IsCodec (Others value) (flat_map spelled) (others_at value))
    → IsCodec (IsCons Is Others) (flat_map spelled) (λ bytes. at bytes >>= λ value.
    others_at value.0 value.1 >>= λ others. Ok (value.0 ∷ others.0, others.1))
IsCodec-cons {A = A} Is Others spelled at others_at first others =
    IsCodec-then Is spelled at (IsTail Others) (λ _ list. flat_map spelled (tail list))
    (λ value bytes. others_at value bytes >>= λ others. Ok (value ∷ others.0, others.1))
    (IsCons Is Others) (flat_map spelled) first
    (λ value. IsCodec-tail value Others spelled (others_at value) (others value)) split join
  where
    split : (list : List A) → IsCons Is Others list → (value : A) × Joins Is spelled
        (IsTail Others) (λ _ list. flat_map spelled (tail list)) (flat_map spelled list) value list
    split [] is = absurd is
    split (value ∷ later) is = (
      value,
      record {
        first = is.0;
        second = (later, is.1, refl);
        parts = refl;
      },
    )

    join : (value : A) (list : List A) → Is value → IsTail Others value list
        → IsCons Is Others list × (flat_map spelled list ≡ spelled value ++ flat_map spelled (tail list))
    join value list is later = subst (λ l. IsCons Is Others l
        × (flat_map spelled l ≡ spelled value ++ flat_map spelled (tail l)))
        (sym later.2) ((is, later.1), refl)

-- a reading with a place is one without
placed_ok : {A : Type 0} (size : ℕ) (reading : Result A ℕ) (made : A)
    → with_place size reading ≡ Ok made → reading ≡ Ok made
placed_ok size (Ok value) made e = e
placed_ok size (Err left) made e = absurd cc

-- a value with bytes after it
last-more : {A : Type 0} (value : A) (byte : ℕ) (rest : List ℕ)
    → last (value, byte ∷ rest) ≡ Err (length (byte ∷ rest))
last-more {A = A} value byte rest = by_test (length (byte ∷ rest) == 0)
    (λ none. let empty : length (byte ∷ rest) ≡ 0 = search (rules, tests, none) in
    absurd (omega (arith, empty)))
  where
    by_test : (none : Bool) → (none ≡ true → ⊥)
        → ◌≡◌ {A = Result A ℕ} (if none then Ok value else Err (length (byte ∷ rest)))
        (Err (length (byte ∷ rest)))
    by_test true some = absurd (some refl)
    by_test false some = refl

-- a value with nothing after it
last_ok : {A : Type 0} (value : A) (rest : List ℕ) (made : A) → last (value, rest) ≡ Ok made
    → ◌≡◌ {A = A × List ℕ} (value, rest) (made, [])
last_ok value [] made e = ap (λ x. (x, [])) (same_Ok e)
last_ok value (byte ∷ rest) made e = let more = last-more value byte rest in absurd cc

-- a place is within the bytes
placed-within : {A : Type 0} (size : ℕ) (reading : Result A ℕ) (place : ℕ)
    → with_place size reading ≡ Err place → place ≤ size
placed-within size (Ok value) place e = absurd cc
placed-within size (Err left) place e = let same : size - left ≡ place = cc in omega arith

-- with nothing after it: there is one spelling
pub HasOneSpelling-whole : {A : Type 0} (Is : A → Type 0) (spelled : A → List ℕ) (at : Reader A)
    → IsCodec Is spelled at → HasOneSpelling Is spelled (whole at)
HasOneSpelling-whole {A = A} Is spelled at codec = record {
  again = again;
  alone = alone;
  within = λ bytes place. placed-within (length bytes) (at bytes >>= last) place;
}
  where
    again : (value : A) → Is value → whole at (spelled value) ≡ Ok value
    again value is =
        let read : at (spelled value) ≡ Ok (value, []) =
        subst (λ bytes. at bytes ≡ Ok (value, [])) (append-nil (spelled value))
        (codec.again value [] is) in
        rw read refl

    alone : (bytes : List ℕ) (value : A) → AreBytes bytes → whole at bytes ≡ Ok value
        → Is value × (bytes ≡ spelled value)
    alone bytes value good read =
        let steps = bind_ok (at bytes) last value (placed_ok (length bytes) (at bytes >>= last) value read) in
        let ends = last_ok steps.0.0 steps.0.1 value steps.2 in
        let front = codec.alone bytes value [] good (steps.1 ∙ ap (λ x. Ok x) ends) in
        (front.is, front.parts ∙ append-nil (spelled value))

-- a value that has a first part and others
abbrev pub HasPart : {A B : Type 0} → (A → Type 0) → (A → B → Type 0) → B → Type 0
HasPart {A = A} IsA IsB b = (a : A) × IsA a × IsB a b

-- a field, and then the others
pub IsCodec-field : {A B : Type 0} (IsA : A → Type 0) (a_bytes : A → List ℕ) (at : Reader A)
    (IsB : A → B → Type 0) (b_bytes : B → List ℕ) (next : A → Reader B) (spelled : B → List ℕ)
    → IsCodec IsA a_bytes at → ((a : A) → IsCodec (IsB a) b_bytes (next a))
    → ((a : A) (b : B) → IsB a b → spelled b ≡ a_bytes a ++ b_bytes b)
    → IsCodec (HasPart IsA IsB) spelled (λ bytes. at bytes >>= λ a. next a.0 a.1)
IsCodec-field IsA a_bytes at IsB b_bytes next spelled first second parts =
    IsCodec-then IsA a_bytes at IsB (λ _. b_bytes) next (HasPart IsA IsB) spelled first second
    (λ b is. (
      is.0,
      record {
        first = is.1;
        second = is.2;
        parts = parts is.0 b is.2;
      },
    ))
    (λ a b is others. ((a, is, others), parts a b others))

-- the last field: with it the value is made
pub IsCodec-last : {A B : Type 0} (IsA : A → Type 0) (a_bytes : A → List ℕ) (at : Reader A)
    (made : A → B) (spelled : B → List ℕ)
    → IsCodec IsA a_bytes at → ((a : A) → spelled (made a) ≡ a_bytes a)
    → IsCodec (HasPart IsA (λ a b. b ≡ made a)) spelled
    (λ bytes. at bytes >>= λ a. Ok (made a.0, a.1))
IsCodec-last IsA a_bytes at made spelled first parts =
    IsCodec-field IsA a_bytes at (λ a b. b ≡ made a) (λ _. []) (λ a bytes. Ok (made a, bytes))
    spelled first (λ a. IsCodec-done (made a))
    (λ a b is. ap spelled is ∙ parts a ∙ sym (append-nil (a_bytes a)))

-- a value with nothing after it
pub whole-ok : {A : Type 0} (at : Reader A) (bytes : List ℕ) (value : A)
    → at bytes ≡ Ok (value, []) → whole at bytes ≡ Ok value
whole-ok at bytes value read = rw read refl

-- bytes after a value
pub whole-more : {A : Type 0} (at : Reader A) (bytes : List ℕ) (value : A) (byte : ℕ)
    (rest : List ℕ) → at bytes ≡ Ok (value, byte ∷ rest)
    → whole at bytes ≡ Err (length bytes - length (byte ∷ rest))
whole-more at bytes value byte rest read =
    rw read (ap (with_place (length bytes)) (last-more value byte rest))

-- a field that cannot be read
pub whole-err : {A : Type 0} (at : Reader A) (bytes : List ℕ) (left : ℕ)
    → at bytes ≡ Err left → whole at bytes ≡ Err (length bytes - left)
whole-err at bytes left read = rw read refl

-- a value with nothing after it is the one that the bytes spell
pub whole-alone : {A : Type 0} (Is : A → Type 0) (spelled : A → List ℕ) (at : Reader A)
    → HasOneSpelling Is spelled (whole at) → (bytes : List ℕ) (value : A) (rest : List ℕ)
    → ((i : ℕ) → Fits w8 (get_or bytes i 0)) → at bytes ≡ Ok (value, rest) → length rest < 1
    → Is value × (bytes ≡ spelled value)
whole-alone Is spelled at law bytes value [] fits read none =
    law.alone bytes value (λ i. omega (arith, fits i)) (whole-ok at bytes value read)
whole-alone Is spelled at law bytes value (byte ∷ rest) fits read none =
    absurd (omega (arith, none))
