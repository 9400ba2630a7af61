-- Pieces: windows of some bytes, and what is read after a front that was filled before.
use Rattle.std.proofs.Common.{◌≡◌, ℕ, ◌+◌, ◌-◌, ◌≤◌, List, [], ◌++◌}
use Rattle.std.proofs.Common.{length, take, drop, sym, ◌∙◌, ap, arith}
use Rattle.std.proofs.Math.Seq.{take-append-add}
use Rattle.std.proofs.lemmas.List.{take-append-drop, take-append-le, drop-take}
use Rattle.std.proofs.lemmas.List.{drop-drop, length-drop, length-take-le}
use Rattle.std.specs.Prelude.{slice_range}
use borrow.Rule.Slice.PartMut.{put_mid, post_of}

-- how long a window is
pub slice_range-le : (bytes : List ℕ) (at end : ℕ) → end ≤ length bytes
    → length (slice_range bytes at end) ≡ end - at
slice_range-le bytes at end within =
    length-take-le (end - at) (drop at bytes) (omega (arith, length-drop at bytes))

-- a window that ends before it begins has no bytes
pub slice_range-empty : (bytes : List ℕ) (at end : ℕ) → end ≤ at → slice_range bytes at end ≡ []
slice_range-empty bytes at end past =
    let none : end - at ≡ 0 = omega arith in
    ap (λ (many : ℕ). take many (drop at bytes)) none

-- a window is its front, and the window that is left
pub slice_range-take : (bytes front : List ℕ) (at count end : ℕ)
    → front ≡ take count (slice_range bytes at end) → at + count ≤ end
    → slice_range bytes at end ≡ front ++ slice_range bytes (at + count) end
slice_range-take bytes front at count end is_front within =
    let window = slice_range bytes at end in
    let left = end - (at + count) in
    let all : end - at ≡ count + left = omega arith in
    sym (take-append-drop count window) ∙ ap (λ (l : List ℕ). l ++ drop count window) (sym is_front)
    ∙ ap (λ (l : List ℕ). front ++ l)
    (ap (λ (many : ℕ). drop count (take many (drop at bytes))) all
    ∙ drop-take count left (drop at bytes)
    ∙ ap (λ (l : List ℕ). take left l) (drop-drop count at bytes))

-- a part put back after a front: the front, and then the part's own
pub take-put_mid-add : (at room count : ℕ) (piece part : List ℕ)
    → at ≤ length piece → count ≤ length part
    → take (at + count) (put_mid at room piece part) ≡ take at piece ++ take count part
take-put_mid-add at room count piece part within fits =
    let front = take at piece in
    let rest = post_of at room piece in
    let long : length front ≡ at = length-take-le at piece within in
    ap (λ n. take (n + count) (front ++ (part ++ rest))) (sym long)
    ∙ take-append-add front (part ++ rest) count
    ∙ ap (λ l. front ++ l) (take-append-le count part rest fits)
