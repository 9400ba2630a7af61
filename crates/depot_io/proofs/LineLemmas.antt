-- A line that has no LF in it: its span, and what std's first line is of it, with an LF after it
-- or without.
use Rattle.std.proofs.Common.{◌≡◌, ℕ, ◌+◌, ◌-◌, ◌<◌, Bool, true, false}
use Rattle.std.proofs.Common.{◌&&◌, not, cond, eqb, nat_lt}
use Rattle.std.proofs.Common.{List, [], ◌∷◌, ◌++◌, length, take, get_or}
use Rattle.std.proofs.Common.{refl, sym, ◌∙◌, ap, arith, append-nil, length-append}
use Rattle.std.proofs.Math.Seq.{take-append_seam, get_or-append_seam}
use Rattle.std.proofs.lemmas.Bool.{eq-eqb, lt-ltb}
use Rattle.std.proofs.lemmas.List.Folds.{prefix_len-append}
use Rattle.std.proofs.lemmas.List.Sums.{fails_before_first}
use Rattle.std.specs.Prelude.{◌==◌}
use Rattle.std.specs.Io.BufRead.{take_through, ends_with_byte, strip_last, first_line}
use Rattle.depot_io.specs.Lines.{span}

-- what stands after a line with no LF in it adds its own span
pub span-append : (line rest : List ℕ) → span line ≡ length line
    → span (line ++ rest) ≡ length line + span rest
span-append line rest unbroken =
    prefix_len-append (λ byte. not (byte == 10)) line rest
    ∙ ap (λ b. cond b (length line + span rest) (span line)) (eq-eqb _ _ unbroken)

-- a line with no LF in it is passed whole
take_through-append : (line rest : List ℕ) → span line ≡ length line
    → take_through 10 (line ++ rest) ≡ line ++ take_through 10 rest
take_through-append [] rest unbroken = refl
take_through-append (x ∷ xs) rest unbroken =
    step (eqb x 10) unbroken (take_through-append xs rest)
  where
    step : (b : Bool) → cond (not b) (1 + span xs) 0 ≡ length (x ∷ xs)
        → (span xs ≡ length xs → take_through 10 (xs ++ rest) ≡ xs ++ take_through 10 rest)
        → cond b (x ∷ []) (x ∷ take_through 10 (xs ++ rest)) ≡ x ∷ (xs ++ take_through 10 rest)
    step true none passed = absurd (omega arith)
    step false more passed = ap (λ l. x ∷ l) (passed (omega arith))

-- a byte that was put at the end stands there
ends_with_byte-push : (byte : ℕ) (line : List ℕ) → ends_with_byte byte (line ++ byte ∷ []) ≡ true
ends_with_byte-push byte line =
    let long = length-append line (byte ∷ []) in
    let some : 0 < length (line ++ byte ∷ []) = omega arith in
    let last : length (line ++ byte ∷ []) - 1 ≡ length line = omega arith in
    let there : get_or (line ++ byte ∷ []) (length (line ++ byte ∷ []) - 1) 0 ≡ byte =
    ap (λ n. get_or (line ++ byte ∷ []) n 0) last ∙ get_or-append_seam line byte [] 0 in
    ap (λ b. b && eqb (get_or (line ++ byte ∷ []) (length (line ++ byte ∷ []) - 1) 0) byte)
    (lt-ltb 0 _ some)
    ∙ eq-eqb _ byte there

-- a line with no LF in it does not end with one
ends_with_byte-unbroken : (line : List ℕ) → span line ≡ length line
    → ends_with_byte 10 line ≡ false
ends_with_byte-unbroken [] unbroken = refl
ends_with_byte-unbroken (x ∷ xs) unbroken =
    let inside : length (x ∷ xs) - 1 < span (x ∷ xs) = omega arith in
    ap (λ b. nat_lt 0 (length (x ∷ xs)) && b)
    (fails_before_first (λ byte. byte == 10) (x ∷ xs) (length (x ∷ xs) - 1) 0 inside)
    ∙ none (nat_lt 0 (length (x ∷ xs)))
  where
    none : (b : Bool) → b && false ≡ false
    none true = refl
    none false = refl

-- the LF that ends a line is not of its piece
strip_last-push : (byte : ℕ) (line : List ℕ) → strip_last byte (line ++ byte ∷ []) ≡ line
strip_last-push byte line =
    let last : length (line ++ byte ∷ []) - 1 ≡ length line =
    omega (arith, length-append line (byte ∷ [])) in
    ap (λ b. cond b (take (length (line ++ byte ∷ []) - 1) (line ++ byte ∷ [])) (line ++ byte ∷ []))
    (ends_with_byte-push byte line)
    ∙ ap (λ n. take n (line ++ byte ∷ [])) last ∙ take-append_seam line (byte ∷ [])

-- how the first line follows from the bytes up to the first LF
line_of : List ℕ → List ℕ
line_of through =
    cond (ends_with_byte 10 through) (strip_last 13 (strip_last 10 through)) (strip_last 10 through)

-- a line with an LF after it loses that, and one CR
pub first_line-newline : (line rest : List ℕ) → span line ≡ length line
    → first_line (line ++ 10 ∷ rest) ≡ strip_last 13 line
unfolding line_of
first_line-newline line rest unbroken =
    let with_end = line ++ 10 ∷ [] in
    ap line_of (take_through-append line (10 ∷ rest) unbroken)
    ∙ ap (λ b. cond b (strip_last 13 (strip_last 10 with_end)) (strip_last 10 with_end))
    (ends_with_byte-push 10 line)
    ∙ ap (strip_last 13) (strip_last-push 10 line)

-- a line that the input ends is taken as it stands
pub first_line-last : (line : List ℕ) → span line ≡ length line → first_line line ≡ line
unfolding line_of
first_line-last line unbroken =
    let through : take_through 10 line ≡ line =
    ap (take_through 10) (sym (append-nil line)) ∙ take_through-append line [] unbroken
    ∙ append-nil line in
    let whole = ends_with_byte-unbroken line unbroken in
    ap line_of through
    ∙ ap (λ b. cond b (strip_last 13 (strip_last 10 line)) (strip_last 10 line)) whole
    ∙ ap (λ b. cond b (take (length line - 1) line) line) whole
