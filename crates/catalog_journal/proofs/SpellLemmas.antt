-- A body after its length, written and read again; and open records, one after the other.
use Rattle.std.proofs.Common.{◌≡◌, ℕ, ◌+◌, ◌^◌, ◌<◌, ◌≤◌, List, [], ◌∷◌, ◌++◌}
use Rattle.std.proofs.Common.{length, take, drop, refl, sym, ◌∙◌, ap, subst, arith}
use Rattle.std.specs.Int.{w32, from_be_bytes, to_be_bytes}
use Rattle.std.proofs.lemmas.Nat.{be_bytes_4, from_be_bytes-to_be_bytes_4}
use Rattle.std.proofs.lemmas.Bool.{cases_lt}
use Rattle.std.proofs.lemmas.List.{append_assoc, append-nil, drop-drop, drop_at, get_or-drop, get_or-take}
use Rattle.std.proofs.lemmas.List.{get_or_past, length-append, length-drop, length-take, length-take-le}
use Rattle.std.proofs.lemmas.List.{take-append-drop, take_at}
use mathlib.Core.Logic.{inl, inr}
use Rattle.catalog_journal.specs.Catalog.{IsBody, framed, open_records, spelled}
use Rattle.catalog_journal.specs.Reading.{size_in}
use Rattle.catalog_journal.specs.Laws.{AreBytes}

-- how long they are
pub length-spelled : (body : List ℕ) → length (spelled body) ≡ 4 + length body
length-spelled body =
    let four : length (to_be_bytes w32 (length body)) ≡ 4 = refl in
    omega (arith, four, length-append (to_be_bytes w32 (length body)) body)

pub length-framed : (body : List ℕ) → length (framed body) ≡ 5 + length body
length-framed body = omega (arith, length-spelled body, length-append (spelled body) (0 ∷ []))

-- the length is read again, and the body stands after it
pub size_in-spelled : (body more : List ℕ) → IsBody body
    → size_in (spelled body ++ more) ≡ length body
size_in-spelled body more short =
    ap (λ (l : List ℕ). from_be_bytes w32 (take 4 l))
    (append_assoc (to_be_bytes w32 (length body)) body more)
    ∙ ap (λ (l : List ℕ). from_be_bytes w32 l)
    (take_at (to_be_bytes w32 (length body)) (body ++ more) 4 refl)
    ∙ from_be_bytes-to_be_bytes_4 (length body) short

pub drop-spelled : (body more : List ℕ) → drop 4 (spelled body ++ more) ≡ body ++ more
drop-spelled body more =
    ap (λ (l : List ℕ). drop 4 l) (append_assoc (to_be_bytes w32 (length body)) body more)
    ∙ drop_at (to_be_bytes w32 (length body)) (body ++ more) 4 refl

-- parts of bytes are bytes
pub AreBytes-take : (n : ℕ) (bytes : List ℕ) → AreBytes bytes → AreBytes (take n bytes)
AreBytes-take n bytes are i = elim (cases_lt i n) [
  | inl early ↦ subst (λ (byte : ℕ). byte < 256) (sym (get_or-take n bytes i 0 early)) (are i)
  | inr late ↦ subst (λ (byte : ℕ). byte < 256)
      (sym (get_or_past (take n bytes) i 0 (omega (arith, late, length-take n bytes)))) (omega arith)
]

pub AreBytes-drop : (n : ℕ) (bytes : List ℕ) → AreBytes bytes → AreBytes (drop n bytes)
AreBytes-drop n bytes are i =
    subst (λ (byte : ℕ). byte < 256) (sym (get_or-drop n bytes i 0)) (are (n + i))

-- four bytes are a number below 2^32
pub size_in-lt : (bytes : List ℕ) → AreBytes bytes → size_in bytes < 2 ^ 32
size_in-lt bytes are =
    let four : AreBytes (take 4 bytes) = AreBytes-take 4 bytes are in
    omega (arith, four 0, four 1, four 2, four 3)

-- bytes that begin with a length and so many bytes more, are a body after its length
pub spelled-size_in : (bytes : List ℕ) → AreBytes bytes → 4 + size_in bytes ≤ length bytes
    → spelled (take (size_in bytes) (drop 4 bytes)) ++ drop (4 + size_in bytes) bytes ≡ bytes
spelled-size_in bytes are long =
    let body : List ℕ = take (size_in bytes) (drop 4 bytes) in
    let size : length body ≡ size_in bytes =
    length-take-le (size_in bytes) (drop 4 bytes) (omega (arith, long, length-drop 4 bytes)) in
    let front : to_be_bytes w32 (length body) ≡ take 4 bytes =
    be_bytes_4 (take 4 bytes) (length body) (length-take-le 4 bytes (omega (arith, long)))
    (AreBytes-take 4 bytes are) size in
    let rest : drop (4 + size_in bytes) bytes ≡ drop (size_in bytes) (drop 4 bytes) =
    sym (drop-drop (size_in bytes) 4 bytes) in
    ap (λ (l : List ℕ). (l ++ body) ++ drop (4 + size_in bytes) bytes) front
    ∙ append_assoc (take 4 bytes) body (drop (4 + size_in bytes) bytes)
    ∙ ap (λ (l : List ℕ). take 4 bytes ++ (body ++ l)) rest
    ∙ ap (λ (l : List ℕ). take 4 bytes ++ l) (take-append-drop (size_in bytes) (drop 4 bytes))
    ∙ take-append-drop 4 bytes

-- one record before the others
pub open_records-cons : (body : List ℕ) (bodies : List (List ℕ)) (tail : List ℕ)
    → open_records (body ∷ bodies) ++ tail ≡ 1 ∷ (spelled body ++ (open_records bodies ++ tail))
open_records-cons body bodies tail =
    ap (λ (l : List ℕ). 1 ∷ l) (append_assoc (spelled body) (open_records bodies) tail)

-- one record after the others
pub open_records-push : (bodies : List (List ℕ)) (body tail : List ℕ)
    → open_records (bodies ++ body ∷ []) ++ tail ≡ open_records bodies ++ 1 ∷ (spelled body ++ tail)
open_records-push [] body tail = open_records-cons body [] tail
open_records-push (first ∷ bodies) body tail =
    open_records-cons first (bodies ++ body ∷ []) tail
    ∙ ap (λ (l : List ℕ). 1 ∷ (spelled first ++ l)) (open_records-push bodies body tail)
    ∙ sym (open_records-cons first bodies (1 ∷ (spelled body ++ tail)))

-- and how long they are then
pub length-open_records-push : (bodies : List (List ℕ)) (body : List ℕ)
    → length (open_records (bodies ++ body ∷ [])) ≡ length (open_records bodies) + (5 + length body)
length-open_records-push bodies body =
    let same : open_records (bodies ++ body ∷ []) ≡ open_records bodies ++ 1 ∷ (spelled body ++ []) =
    sym (append-nil (open_records (bodies ++ body ∷ []))) ∙ open_records-push bodies body [] in
    omega (
      arith,
      ap length same,
      length-append (open_records bodies) (1 ∷ (spelled body ++ [])),
      length-append (spelled body) [],
      length-spelled body,
    )
