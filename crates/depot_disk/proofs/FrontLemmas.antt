-- A file is read piece by piece into the front of a list.
use Rattle.std.proofs.Common.{◌≡◌, ℕ, ◌+◌, ◌-◌, ◌≤◌, List, ◌++◌, length, take, drop}
use Rattle.std.proofs.Common.{refl, sym, ◌∙◌, ap, subst, arith}
use Rattle.std.specs.Prelude.{None, Some, IfSome}
use Rattle.std.specs.declared.option.Option.{Option}
use Rattle.std.proofs.lemmas.List.{append-nil, drop-take, drop_all, length-append, length-drop, length-take, length-take-le}
use Rattle.std.proofs.lemmas.List.{take-append-drop, take-take, take_at, drop_at}
use Rattle.std.proofs.lemmas.Bool.{cases_lt}
use borrow.Rule.Slice.PartMut.{put_mid}
use mathlib.Core.Logic.{inl, inr}
use Rattle.depot_disk.specs.Front.{HasFront, IsFront}
use Rattle.depot_disk.specs.Torn.{IsPiece}

-- so many elements more
take-more : (done count : ℕ) (bytes : List ℕ) → done ≤ length bytes
    → take (done + count) bytes ≡ take done bytes ++ take count (drop done bytes)
take-more done count bytes le =
    sym (take-append-drop done (take (done + count) bytes))
    ∙ ap (λ (l : List ℕ). l ++ drop done (take (done + count) bytes))
    (take-take done (done + count) bytes (omega arith))
    ∙ ap (λ (l : List ℕ). take done bytes ++ l) (drop-take done count bytes)

-- nothing was read yet
pub HasFront-start : (bytes into : List ℕ) → HasFront bytes 0 into
HasFront-start bytes into = record { fits = omega arith; there = omega arith; front = refl }

-- what a list is after its part from a place on was written
put-rest : (done : ℕ) (old piece : List ℕ) → length piece ≡ length old - done
    → put_mid done (length old - done) old piece ≡ take done old ++ piece
put-rest done old piece size =
    ap (λ (l : List ℕ). take done old ++ (piece ++ l))
    (drop_all (length old - done) (drop done old) (omega (arith, length-drop done old)))
    ∙ ap (λ (l : List ℕ). take done old ++ l) (append-nil piece)

-- a piece has the room from a place on
pub rest-size : (done : ℕ) (old piece : List ℕ)
    → length piece ≡ length (take (length old - done) (drop done old))
    → length piece ≡ length old - done
rest-size done old piece same =
    omega (arith, same, length-take (length old - done) (drop done old), length-drop done old)

-- it is as long as before
pub length-put_rest : (done : ℕ) (old piece : List ℕ) → done ≤ length old
    → length piece ≡ length old - done
    → length (put_mid done (length old - done) old piece) ≡ length old
length-put_rest done old piece le size =
    ap length (put-rest done old piece size)
    ∙ omega (arith, size, le, length-append (take done old) piece, length-take-le done old le)

-- one piece more was read
pub HasFront-step : (bytes : List ℕ) (done count : ℕ) (old piece : List ℕ)
    → HasFront bytes done old → IsPiece bytes done count piece
    → length piece ≡ length old - done
    → HasFront bytes (done + count) (put_mid done (length old - done) old piece)
HasFront-step bytes done count old piece has read size =
    let new : List ℕ = take done old ++ piece in
    let before : take done new ≡ take done old =
    take_at (take done old) piece done (length-take-le done old has.fits) in
    let here : drop done new ≡ piece =
    drop_at (take done old) piece done (length-take-le done old has.fits) in
    let fits : done + count ≤ length new =
    omega (arith, read.fits, has.fits, length-append (take done old) piece, length-take-le done old has.fits) in
    let front : take (done + count) new ≡ take (done + count) bytes =
    take-more done count new (omega (arith, fits))
    ∙ ap (λ (l : List ℕ). l ++ take count (drop done new)) (before ∙ has.front)
    ∙ ap (λ (l : List ℕ). take done bytes ++ take count l) here
    ∙ ap (λ (l : List ℕ). take done bytes ++ l) read.piece
    ∙ sym (take-more done count bytes has.there) in
    subst (λ (now : List ℕ). HasFront bytes (done + count) now) (sym (put-rest done old piece size))
    (record {
      fits = fits;
      there = omega (arith, has.there, read.there, length-drop done bytes);
      front = front;
    })

-- there is no more, or no room for it
pub IsFront-end : (bytes : List ℕ) (done count : ℕ) (old piece : List ℕ) → count ≡ 0
    → HasFront bytes done old → IsPiece bytes done count piece
    → length piece ≡ length old - done
    → IsFront bytes done (put_mid done (length old - done) old piece)
IsFront-end bytes done count old piece none has read size =
    let now : HasFront bytes (done + count) (put_mid done (length old - done) old piece) =
    HasFront-step bytes done count old piece has read size in
    let same : length (put_mid done (length old - done) old piece) ≡ length old =
    length-put_rest done old piece has.fits size in
    record {
      count = elim (cases_lt 0 (length piece)) [
        | inl room ↦ elim (cases_lt 0 (length (drop done bytes))) [
          | inl more ↦ absurd (omega (arith, none, read.some room more))
          | inr end ↦ omega (arith, same, end, has.fits, has.there, length-drop done bytes)
        ]
        | inr full ↦ omega (arith, same, full, size, has.fits, has.there)
      ];
      front = subst (λ (many : ℕ). take many (put_mid done (length old - done) old piece)
          ≡ take many bytes)
          (omega (arith, none)) now.front;
    }

-- what is told of what a disk holds, by an earlier name of it
pub IfSome-and : {X : Type 0} (held now : Option X) (P Q R : X → Type 0) → now ≡ held
    → ((x : X) → P x → Q x → R x) → IfSome held P → IfSome now Q → IfSome held R
IfSome-and {X = X} None now P Q R is follows one other = tt
IfSome-and {X = X} (Some x) now P Q R is follows one other =
    follows x one (subst (λ (o : Option X). IfSome o Q) is other)
