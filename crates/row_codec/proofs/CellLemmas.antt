-- Cells, rows and lists of rows: they are read from what spells them.
use Rattle.std.proofs.Common.{◌≡◌, ◌++◌, ◌∷◌, [], ◌^◌, ◌<◌, ◌≤◌, ◌∙◌, ℕ, zero, suc, ℤ, pos, negsuc}
use Rattle.std.proofs.Common.{List, true, Ok, FitsSigned, length, take, drop, map, refl}
use Rattle.std.proofs.Common.{sym, ap, arith, rules, subst, tests}
use Rattle.std.specs.Prelude.{All, ◌&&◌, flat_map, nat_le}
use Rattle.std.specs.Int.{w64, cast_signed, cast_unsigned, int_wrap}
use Rattle.std.specs.List.{AllZip}
use Rattle.std.specs.Str.{is_utf8}
use Rattle.std.proofs.lemmas.Bool.{and_parts}
use Rattle.std.proofs.lemmas.Int.{SFits-int_wrap, ints, of_z-to_z, to_z-of_z}
use Rattle.std.proofs.lemmas.List.{append-nil, length-append, length-take-le, take-append-drop}
use Rattle.std.proofs.lemmas.List.Elements.{All-cons, All-head, All-nil, All-tail, All-weaker}
use Rattle.std.proofs.lemmas.Str.{IsUtf8-from_is_utf8, is_utf8-from_IsUtf8}
use Rattle.std.proofs.Math.Nat.{mod-eq_of_lt}
use Rattle.std.proofs.Math.Seq.{drop-append_seam, take-append_seam}
use Rattle.depot_cell.specs.declared.cell.Cell.{Cell}
use Rattle.depot_cell.specs.declared.cell.Cell.TheVariants.{Int, Text}
use Rattle.depot_cell.specs.declared.cell.Ty.{Ty}
use Rattle.depot_cell.specs.declared.cell.Ty.TheVariants as ty
use Rattle.depot_cell.specs.Reading.{IsCellOf}
use Rattle.row_codec.specs.declared.field.Wanted.{Wanted}
use Rattle.row_codec.specs.declared.field.Wanted.TheVariants as wanted
use Rattle.row_codec.specs.Laws.{AreBytes, AreRowsOf, RowsHaveOneSpelling}
use Rattle.row_codec.specs.Reading.{cell_at, int_at, is_tick, number_at, row_at, rows_at}
use Rattle.row_codec.specs.Reading.{so_many_rows_at, text_at, wanted_of}
use Rattle.row_codec.specs.Spelling.{cell_bytes, number_bytes, row_bytes, rows_bytes}
use Rattle.row_codec.proofs.CodecLemmas.{HasOneSpelling-whole, IsCodec, IsCodec-checked}
use Rattle.row_codec.proofs.CodecLemmas.{IsCodec-cons, IsCodec-done, IsCodec-same, IsCodec-then}
use Rattle.row_codec.proofs.CodecLemmas.{IsCons, IsFront, Joins, guard_ok, same_Ok}
use Rattle.row_codec.proofs.NumberLemmas.{number_codec}

-- the bits of an int
unsigned-fits : (number : ℤ) → FitsSigned w64 number → cast_unsigned w64 number < 2 ^ 64
unsigned-fits (pos number) fits = omega (arith, ints)
unsigned-fits (negsuc number) fits = omega (arith, ints)

-- the int of bits
signed-fits : (number : ℕ) → number < 2 ^ 64 → FitsSigned w64 (cast_signed w64 number)
unfolding int_wrap
signed-fits number small = subst (λ n. FitsSigned w64 (cast_signed w64 n)) (mod-eq_of_lt small)
    (SFits-int_wrap w64 (pos number))

-- the cell of a number
abbrev IsIntOf : ℕ → Cell → Type 0
IsIntOf number cell = cell ≡ Int (cast_signed w64 number)

int-split : (cell : Cell) → IsCellOf ty.Int cell → (number : ℕ) × Joins (λ n. n < 2 ^ 64)
    (number_bytes 8) IsIntOf (λ _ _. []) (cell_bytes cell) number cell
int-split (Int number) is = (
  cast_unsigned w64 number,
  record {
    first = unsigned-fits number is.is_cell;
    second = ap (λ n. Int n) (sym (to_z-of_z w64 number is.is_cell));
    parts = sym (append-nil (number_bytes 8 (cast_unsigned w64 number)));
  },
)
int-split (Text text) is = let typed : ty.Text ≡ ty.Int = is.typed in absurd cc

int-join : (number : ℕ) (cell : Cell) → number < 2 ^ 64 → IsIntOf number cell
    → IsCellOf ty.Int cell × (cell_bytes cell ≡ number_bytes 8 number ++ [])
int-join number cell small is =
    subst (λ made. IsCellOf ty.Int made × (cell_bytes made ≡ number_bytes 8 number ++ [])) (sym is) (
      record { typed = refl; is_cell = signed-fits number small },
      ap (number_bytes 8) (of_z-to_z w64 number small) ∙ sym (append-nil (number_bytes 8 number)),
    )

-- an int
pub int_codec : IsCodec (IsCellOf ty.Int) cell_bytes int_at
unfolding int_at
int_codec = IsCodec-then (λ n. n < 2 ^ 64) (number_bytes 8) (number_at 8) IsIntOf (λ _ _. [])
    (λ number bytes. Ok (Int (cast_signed w64 number), bytes)) (IsCellOf ty.Int) cell_bytes
    (number_codec 8) (λ number. IsCodec-done (Int (cast_signed w64 number))) int-split int-join

-- a text that was spelled is read
text-again : (cell : Cell) (rest : List ℕ) → IsCellOf ty.Text cell
    → text_at (cell_bytes cell ++ rest) ≡ Ok (cell, rest)
unfolding text_at
text-again (Int number) rest is = let typed : ty.Int ≡ ty.Text = is.typed in absurd cc
text-again (Text text) rest is =
    let many : length text ≤ length (text ++ rest) = omega (arith, length-append text rest) in
    let there : nat_le (length text) (length (text ++ rest)) ≡ true =
    search (rules, tests, many) in
    let utf8 = is_utf8-from_IsUtf8 text is.is_cell.utf8 in
    rw (take-append_seam text rest, drop-append_seam text rest, there, utf8) refl

-- the text of so many bytes
text-front : (size : ℕ) (bytes : List ℕ) → AreBytes (size ∷ bytes) → size ≤ length bytes
    → is_utf8 (take size bytes) ≡ true
    → IsFront (IsCellOf ty.Text) cell_bytes (size ∷ bytes) (Text (take size bytes)) (drop size bytes)
text-front size bytes good there utf8 =
    let many = length-take-le size bytes there in
    record {
      is = record {
        typed = refl;
        is_cell = record {
          utf8 = IsUtf8-from_is_utf8 (take size bytes) utf8;
          short = let below = good 0 in omega (arith, many, below);
        };
      };
      parts = ap (λ n. n ∷ bytes) (sym many)
          ∙ ap (λ b. length (take size bytes) ∷ b) (sym (take-append-drop size bytes));
    }

-- a text that was read stands at the front
text-alone : (bytes : List ℕ) (cell : Cell) (rest : List ℕ) → AreBytes bytes
    → text_at bytes ≡ Ok (cell, rest) → IsFront (IsCellOf ty.Text) cell_bytes bytes cell rest
unfolding text_at
text-alone [] cell rest good read = absurd cc
text-alone (size ∷ bytes) cell rest good read =
    let passed = guard_ok (nat_le size (length bytes) && is_utf8 (take size bytes))
    (Ok (Text (take size bytes), drop size bytes)) (length (size ∷ bytes)) (cell, rest) read in
    let tested = and_parts (nat_le size (length bytes)) (is_utf8 (take size bytes)) passed.0 in
    subst (λ x. IsFront (IsCellOf ty.Text) cell_bytes (size ∷ bytes) x.0 x.1) (same_Ok passed.1)
    (text-front size bytes good (search (rules, tests, tested.0)) tested.1)

-- a text
pub text_codec : IsCodec (IsCellOf ty.Text) cell_bytes text_at
text_codec = record { again = text-again; alone = text-alone }

-- a cell that is wanted
abbrev pub IsWanted : Wanted → Cell → Type 0
IsWanted wanted.Int cell = IsCellOf ty.Int cell
IsWanted wanted.Text cell = IsCellOf ty.Text cell
IsWanted wanted.Tick cell = IsCellOf ty.Int cell × (is_tick cell ≡ true)

pub cell_codec : (wanted : Wanted) → IsCodec (IsWanted wanted) cell_bytes (cell_at wanted)
cell_codec wanted.Int = int_codec
cell_codec wanted.Text = text_codec
cell_codec wanted.Tick = IsCodec-checked (IsCellOf ty.Int) cell_bytes int_at is_tick int_codec

-- a list without elements is spelled by no bytes
abbrev NoneIs : {A : Type 0} → (A → List ℕ) → List A → Type 0
NoneIs spelled list = (list ≡ []) × (flat_map spelled list ≡ [])

row-none : (row : List Cell) → AllZip IsWanted [] row → NoneIs cell_bytes row
row-none [] is = (refl, refl)
row-none (cell ∷ row) is = absurd is

-- a row with a cell for each that is wanted
pub row_codec : (wants : List Wanted)
    → IsCodec (AllZip IsWanted wants) row_bytes (row_at wants)
unfolding row_at
row_codec [] = IsCodec-same (λ row. row ≡ []) (AllZip IsWanted []) (λ _. []) row_bytes (row_at [])
    (IsCodec-done []) row-none
    (λ row is. subst (λ r. AllZip IsWanted [] r × (row_bytes r ≡ [])) (sym is) (tt, refl))
row_codec (wanted ∷ wants) =
    IsCodec-same (IsCons (IsWanted wanted) (λ _. AllZip IsWanted wants))
    (AllZip IsWanted (wanted ∷ wants)) row_bytes row_bytes (row_at (wanted ∷ wants))
    (IsCodec-cons (IsWanted wanted) (λ _. AllZip IsWanted wants) cell_bytes (cell_at wanted)
    (λ _. row_at wants) (cell_codec wanted) (λ _. row_codec wants)) to from
  where
    to : (row : List Cell) → AllZip IsWanted (wanted ∷ wants) row
        → IsCons (IsWanted wanted) (λ _. AllZip IsWanted wants) row × (row_bytes row ≡ row_bytes row)
    to [] is = absurd is
    to (cell ∷ row) is = (is, refl)

    from : (row : List Cell) → IsCons (IsWanted wanted) (λ _. AllZip IsWanted wants) row
        → AllZip IsWanted (wanted ∷ wants) row × (row_bytes row ≡ row_bytes row)
    from [] is = absurd is
    from (cell ∷ row) is = (is, refl)

-- so many rows
abbrev pub AreSoMany : List Wanted → ℕ → List (List Cell) → Type 0
AreSoMany wants count rows = (length rows ≡ count) × All (AllZip IsWanted wants) rows

so_many-none : (wants : List Wanted) (rows : List (List Cell)) → AreSoMany wants 0 rows
    → NoneIs row_bytes rows
so_many-none wants [] is = (refl, refl)
so_many-none wants (row ∷ rows) is = absurd (omega (arith, is.0))

so_many_rows_codec : (wants : List Wanted) (count : ℕ)
    → IsCodec (AreSoMany wants count) (flat_map row_bytes) (so_many_rows_at wants count)
unfolding so_many_rows_at
so_many_rows_codec wants zero =
    IsCodec-same (λ rows. rows ≡ []) (AreSoMany wants 0) (λ _. []) (flat_map row_bytes)
    (so_many_rows_at wants zero) (IsCodec-done []) (so_many-none wants)
    (λ rows is. subst (λ r. AreSoMany wants 0 r × (flat_map row_bytes r ≡ [])) (sym is)
    ((refl, All-nil (AllZip IsWanted wants)), refl))
so_many_rows_codec wants (suc count) =
    IsCodec-same (IsCons (AllZip IsWanted wants) (λ _. AreSoMany wants count))
    (AreSoMany wants (suc count)) (flat_map row_bytes) (flat_map row_bytes)
    (so_many_rows_at wants (suc count))
    (IsCodec-cons (AllZip IsWanted wants) (λ _. AreSoMany wants count) row_bytes (row_at wants)
    (λ _. so_many_rows_at wants count) (row_codec wants) (λ _. so_many_rows_codec wants count))
    to from
  where
    to : (rows : List (List Cell)) → AreSoMany wants (suc count) rows
        → IsCons (AllZip IsWanted wants) (λ _. AreSoMany wants count) rows
        × (flat_map row_bytes rows ≡ flat_map row_bytes rows)
    to [] is = absurd (omega (arith, is.0))
    to (row ∷ rows) is =
        let fewer : length rows ≡ count = omega (arith, is.0) in (
          (
            All-head (AllZip IsWanted wants) row rows is.1,
            (
              fewer,
              All-tail (AllZip IsWanted wants) row rows is.1,
            ),
          ),
          refl,
        )

    from : (rows : List (List Cell)) → IsCons (AllZip IsWanted wants) (λ _. AreSoMany wants count) rows
        → AreSoMany wants (suc count) rows × (flat_map row_bytes rows ≡ flat_map row_bytes rows)
    from [] is = absurd is
    from (row ∷ rows) is =
        let many : length (row ∷ rows) ≡ suc count = omega (arith, is.1.0) in
        ((many, All-cons (AllZip IsWanted wants) row rows is.0 is.1.1), refl)

-- rows, of which eight bytes count them
abbrev AreCounted : List Wanted → List (List Cell) → Type 0
AreCounted wants rows = (length rows < 2 ^ 64) × All (AllZip IsWanted wants) rows

rows_codec : (wants : List Wanted) → IsCodec (AreCounted wants) rows_bytes (rows_at wants)
unfolding rows_at
rows_codec wants = IsCodec-then (λ n. n < 2 ^ 64) (number_bytes 8) (number_at 8) (AreSoMany wants)
    (λ _ rows. flat_map row_bytes rows) (so_many_rows_at wants) (AreCounted wants) rows_bytes
    (number_codec 8) (so_many_rows_codec wants)
    (λ rows is. (length rows, record { first = is.0; second = (refl, is.1); parts = refl }))
    (λ count rows small are. (
      (omega (arith, small, are.0), are.1),
      ap (λ n. number_bytes 8 n ++ flat_map row_bytes rows) are.0,
    ))

-- what a column of a type wants is a cell of the type
pub IsWanted-to : (type : Ty) (cell : Cell) → IsCellOf type cell → IsWanted (wanted_of type) cell
IsWanted-to ty.Int cell is = is
IsWanted-to ty.Text cell is = is

pub IsWanted-from : (type : Ty) (cell : Cell) → IsWanted (wanted_of type) cell → IsCellOf type cell
IsWanted-from ty.Int cell is = is
IsWanted-from ty.Text cell is = is

AllZip-to : (types : List Ty) (row : List Cell) → AllZip IsCellOf types row
    → AllZip IsWanted (map wanted_of types) row
AllZip-to [] [] is = tt
AllZip-to [] (_ ∷ _) is = absurd is
AllZip-to (_ ∷ _) [] is = absurd is
AllZip-to (type ∷ types) (cell ∷ row) is =
    (IsWanted-to type cell is.0, AllZip-to types row is.1)

AllZip-from : (types : List Ty) (row : List Cell) → AllZip IsWanted (map wanted_of types) row
    → AllZip IsCellOf types row
AllZip-from [] [] is = tt
AllZip-from [] (_ ∷ _) is = absurd is
AllZip-from (_ ∷ _) [] is = absurd is
AllZip-from (type ∷ types) (cell ∷ row) is =
    (IsWanted-from type cell is.0, AllZip-from types row is.1)

-- rows have one spelling
pub rows_law : RowsHaveOneSpelling
rows_law types =
    HasOneSpelling-whole (AreRowsOf types) rows_bytes (rows_at (map wanted_of types))
    (IsCodec-same (AreCounted (map wanted_of types)) (AreRowsOf types) rows_bytes rows_bytes
    (rows_at (map wanted_of types)) (rows_codec (map wanted_of types))
    (λ rows are. (
      (
        are.few,
        All-weaker (AllZip IsCellOf types)
            (AllZip IsWanted (map wanted_of types)) (AllZip-to types) rows are.each,
      ),
      refl,
    ))
    (λ rows are. (
      record {
        few = are.0;
        each = All-weaker (AllZip IsWanted (map wanted_of types)) (AllZip IsCellOf types)
            (AllZip-from types) rows are.1;
      },
      refl,
    )))
