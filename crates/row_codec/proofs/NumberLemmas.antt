-- Numbers of any size: `number_at` reads what `number_bytes` spells.
use Rattle.std.proofs.Common.{◌≡◌, ◌++◌, ◌∷◌, [], ◌+◌, ◌*◌, ◌^◌, ◌<◌, ◌≤◌, ◌∙◌, ℕ, zero, suc, List}
use Rattle.std.proofs.Common.{Bool, true, false, inl, inr, Ok, Err, length, take, drop, refl, sym}
use Rattle.std.proofs.Common.{ap, arith, rules, subst, tests}
use Rattle.std.specs.Prelude.{Result, nat_lt, if◌then◌else◌}
use Rattle.std.specs.Int.{byte_at, bytes_high_first}
use Rattle.std.proofs.lemmas.Bool.{cases_lt}
use Rattle.std.proofs.lemmas.List.{append-nil, drop_at, length-append, length-take-le}
use Rattle.std.proofs.lemmas.List.{take-append-drop}
use Rattle.std.proofs.Math.Nat.{mod-lt, mul-le-mul_right}
use Rattle.byteorder.specs.Endian.{big_from}
use Rattle.byteorder.specs.Numbers.{big_from-cons, big_from-lt, big_from-take, big_number-reads_back}
use Rattle.byteorder.specs.Numbers.{length-bytes_high_first}
use Rattle.row_codec.specs.Laws.{AreBytes}
use Rattle.row_codec.specs.Reading.{number_at}
use Rattle.row_codec.specs.Spelling.{number_bytes}
use Rattle.row_codec.proofs.CodecLemmas.{IsCodec, IsFront, same_Ok}

-- a digit and what is below it are those of the number that they make
same_digit : (a b low other base : ℕ) → low < base → other < base
    → a * base + low ≡ b * base + other → a ≡ b
same_digit a b low other base small less same = elim (cases_lt a b) [
  | inl below ↦ let more : (a + 1) * base ≤ b * base = mul-le-mul_right base (omega arith) in
      absurd (omega arith)
  | inr above ↦ elim (cases_lt b a) [
    | inl below ↦ let more : (b + 1) * base ≤ a * base = mul-le-mul_right base (omega arith) in
        absurd (omega arith)
    | inr under ↦ omega arith
  ]
]

-- bytes that make one number are the same
same_bytes : (size : ℕ) (xs ys : List ℕ) → length xs ≡ size → length ys ≡ size
    → AreBytes xs → AreBytes ys → big_from 0 size xs ≡ big_from 0 size ys → xs ≡ ys
same_bytes zero [] [] many as_many good fine same = refl
same_bytes zero [] (_ ∷ _) many as_many good fine same = absurd (omega (arith, as_many))
same_bytes zero (_ ∷ _) ys many as_many good fine same = absurd (omega (arith, many))
same_bytes (suc size) [] ys many as_many good fine same = absurd (omega (arith, many))
same_bytes (suc size) (_ ∷ _) [] many as_many good fine same = absurd (omega (arith, as_many))
same_bytes (suc size) (x ∷ xs) (y ∷ ys) many as_many good fine same =
    let moved : x * 256 ^ size + big_from 0 size xs ≡ y * 256 ^ size + big_from 0 size ys =
    ap (λ low. x * 256 ^ size + low) (sym (big_from-cons 0 size x xs)) ∙ same
    ∙ ap (λ low. y * 256 ^ size + low) (big_from-cons 0 size y ys) in
    let first : x ≡ y = same_digit x y (big_from 0 size xs) (big_from 0 size ys) (256 ^ size)
    (big_from-lt 0 size xs (λ i. good (suc i))) (big_from-lt 0 size ys (λ i. fine (suc i)))
    moved in
    let high : x * 256 ^ size ≡ y * 256 ^ size = ap (λ digit. digit * 256 ^ size) first in
    let others : xs ≡ ys = same_bytes size xs ys (omega (arith, many)) (omega (arith, as_many))
    (λ i. good (suc i)) (λ i. fine (suc i)) (omega (arith, moved, high)) in
    cc

-- the bytes of a number are below 256
byte_at-lt : (place number : ℕ) → byte_at place number < 256
byte_at-lt zero number = mod-lt _ (omega arith)
byte_at-lt (suc place) number = mod-lt _ (omega arith)

AreBytes-bytes_high_first : (size number : ℕ) → AreBytes (bytes_high_first size number)
AreBytes-bytes_high_first zero number i = omega arith
AreBytes-bytes_high_first (suc size) number zero = byte_at-lt size number
AreBytes-bytes_high_first (suc size) number (suc i) = AreBytes-bytes_high_first size number i

-- the first bytes are bytes
AreBytes-take : (size : ℕ) (bytes : List ℕ) → AreBytes bytes → AreBytes (take size bytes)
AreBytes-take zero bytes good i = omega arith
AreBytes-take (suc size) [] good i = omega arith
AreBytes-take (suc size) (byte ∷ bytes) good zero = good zero
AreBytes-take (suc size) (byte ∷ bytes) good (suc i) =
    AreBytes-take size bytes (λ i. good (suc i)) i

-- the bytes of the number in the first bytes are these
number_bytes-big_from : (size : ℕ) (bytes : List ℕ) → size ≤ length bytes → AreBytes bytes
    → number_bytes size (big_from 0 size bytes) ≡ take size bytes
unfolding number_bytes
number_bytes-big_from size bytes there good =
    let front = AreBytes-take size bytes good in
    let number = big_from 0 size bytes in
    let again : big_from 0 size (bytes_high_first size number ++ []) ≡ number =
    big_number-reads_back size number [] (big_from-lt 0 size bytes good) in
    same_bytes size (bytes_high_first size number) (take size bytes)
    (length-bytes_high_first size number) (length-take-le size bytes there)
    (AreBytes-bytes_high_first size number) front
    (ap (big_from 0 size) (sym (append-nil (bytes_high_first size number))) ∙ again
    ∙ sym (big_from-take 0 size size bytes (omega arith)))

-- the number of so many bytes at the front of others
number_at-number_bytes : (size number : ℕ) (rest : List ℕ) → number < 256 ^ size
    → number_at size (number_bytes size number ++ rest) ≡ Ok (number, rest)
unfolding number_at number_bytes
number_at-number_bytes size number rest small =
    let bytes = bytes_high_first size number in
    let size_is = length-bytes_high_first size number in
    let many : size ≤ length (bytes ++ rest) =
    omega (arith, length-append bytes rest, size_is) in
    let long : nat_lt (length (bytes ++ rest)) size ≡ false = search (rules, tests, many) in
    rw (long, big_number-reads_back size number rest small, drop_at bytes rest size size_is) refl

-- what a test of the length leaves of a number
abbrev number_read : (short : Bool) → (size : ℕ) → (bytes : List ℕ) → Result (ℕ × List ℕ) ℕ
number_read short size bytes =
    if short then Err (length bytes) else Ok (big_from 0 size bytes, drop size bytes)

-- a number that was read stands at the front
number_read-front : (short : Bool) (size : ℕ) (bytes : List ℕ) (number : ℕ) (rest : List ℕ)
    → (short ≡ false → size ≤ length bytes) → AreBytes bytes
    → number_read short size bytes ≡ Ok (number, rest)
    → IsFront (λ number. number < 256 ^ size) (number_bytes size) bytes number rest
number_read-front true size bytes number rest there good read = absurd cc
number_read-front false size bytes number rest there good read =
    let same = same_Ok read in
    let front = number_bytes-big_from size bytes (there refl) good in
    record {
      is = subst (λ x. x.0 < 256 ^ size) same (big_from-lt 0 size bytes good);
      parts = subst (λ x. bytes ≡ number_bytes size x.0 ++ x.1) same
          (sym (take-append-drop size bytes)
          ∙ ap (λ first. first ++ drop size bytes) (sym front));
    }

-- a number in so many bytes
pub number_codec : (size : ℕ)
    → IsCodec (λ number. number < 256 ^ size) (number_bytes size) (number_at size)
unfolding number_at
number_codec size = record {
  again = number_at-number_bytes size;
  alone = λ bytes number rest good read. number_read-front (nat_lt (length bytes) size) size bytes
      number rest (λ long. search (rules, tests, long)) good read;
}
