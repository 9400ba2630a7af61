-- What records are read as. `read_records-append` reads whole records before others, and `Read-each`
-- tells of any bytes what they are read as; the laws follow from the two.
use Rattle.std.proofs.Common.{◌≡◌, ℕ, zero, suc, ◌+◌, ◌<◌, ◌≤◌, ◌≢◌, ◌⊎◌}
use Rattle.std.proofs.Common.{All, List, [], ◌∷◌, ◌++◌, length, take, drop, refl, sym, ◌∙◌, ap, subst}
use Rattle.std.proofs.Common.{arith, get_or, Ok, Err}
use Rattle.std.specs.declared.result.Result.{Result}
use Rattle.std.proofs.lemmas.Bool.{cases_eq, cases_lt, le-ltb, lt-ltb, ne_eqb}
use Rattle.std.proofs.lemmas.List.{append_assoc, drop_at, drop_more, length-append, length-drop, take_at}
use Rattle.std.proofs.lemmas.List.{length-take-le}
use Rattle.std.proofs.lemmas.List.Elements.{All-cons, All-head, All-nil, All-tail}
use mathlib.Core.Logic.{inl, inr}
use Rattle.catalog_journal.specs.Catalog.{IsBody, IsCut, open_records, spelled}
use Rattle.catalog_journal.specs.Reading.{read_records, size_in, with_all, with_first}
use Rattle.catalog_journal.specs.Laws.{AreBytes}
use Rattle.catalog_journal.proofs.SpellLemmas.{AreBytes-drop, drop-spelled, length-spelled}
use Rattle.catalog_journal.proofs.SpellLemmas.{open_records-cons, size_in-lt, size_in-spelled}
use Rattle.catalog_journal.proofs.SpellLemmas.{spelled-size_in}

-- no gate
pub read_records-none : (most place : ℕ) → read_records most place [] ≡ Err place
unfolding read_records
read_records-none zero place = refl
read_records-none (suc most) place = refl

-- as many records as there may be
pub read_records-all : (place gate : ℕ) (rest : List ℕ) → read_records 0 place (gate ∷ rest) ≡ Ok []
unfolding read_records
read_records-all place gate rest = refl

-- a closed gate
pub read_records-closed : (most place gate : ℕ) (rest : List ℕ) → gate ≢ 1
    → read_records (suc most) place (gate ∷ rest) ≡ Ok []
unfolding read_records
read_records-closed most place gate rest closed = rw (ne_eqb gate 1 closed) refl

-- an open gate before a whole record and a gate
pub read_records-open : (most place : ℕ) (rest : List ℕ) → 4 + size_in rest < length rest
    → read_records (suc most) place (1 ∷ rest)
    ≡ with_first (take (size_in rest) (drop 4 rest))
    (read_records most (place + (5 + size_in rest)) (drop (4 + size_in rest) rest))
unfolding read_records
read_records-open most place rest long = rw (lt-ltb (4 + size_in rest) (length rest) long) refl

-- and before less
pub read_records-cut : (most place : ℕ) (rest : List ℕ) → length rest ≤ 4 + size_in rest
    → read_records (suc most) place (1 ∷ rest) ≡ Err place
unfolding read_records
read_records-cut most place rest short = rw (le-ltb (4 + size_in rest) (length rest) short) refl

-- a record as it is written
pub read_records-spelled : (most place : ℕ) (body tail : List ℕ) → IsBody body → 0 < length tail
    → read_records (suc most) place (1 ∷ (spelled body ++ tail))
    ≡ with_first body (read_records most (place + (5 + length body)) tail)
read_records-spelled most place body tail short some =
    let rest : List ℕ = spelled body ++ tail in
    let size : size_in rest ≡ length body = size_in-spelled body tail short in
    let long : 4 + size_in rest < length rest =
    omega (arith, some, size, length-append (spelled body) tail, length-spelled body) in
    let first : take (size_in rest) (drop 4 rest) ≡ body =
    ap (λ (n : ℕ). take n (drop 4 rest)) size
    ∙ ap (λ (l : List ℕ). take (length body) l) (drop-spelled body tail)
    ∙ take_at body tail (length body) refl in
    let others : drop (4 + size_in rest) rest ≡ tail =
    ap (λ (n : ℕ). drop (4 + n) rest) size
    ∙ drop_at (spelled body) tail (4 + length body) (length-spelled body) in
    read_records-open most place rest long
    ∙ ap (λ (l : List ℕ). with_first l
    (read_records most (place + (5 + size_in rest)) (drop (4 + size_in rest) rest))) first
    ∙ ap (λ (l : List ℕ). with_first body (read_records most (place + (5 + size_in rest)) l)) others
    ∙ ap (λ (n : ℕ). with_first body (read_records most (place + (5 + n)) tail)) size

-- bodies before others, and how such lists are joined
pub with_all-empty : (read : Result (List (List ℕ)) ℕ) → with_all [] read ≡ read
with_all-empty (Ok bodies) = refl
with_all-empty (Err place) = refl

pub with_first-with_all : (body : List ℕ) (bodies : List (List ℕ))
    (read : Result (List (List ℕ)) ℕ)
    → with_first body (with_all bodies read) ≡ with_all (body ∷ bodies) read
with_first-with_all body bodies (Ok more) = refl
with_first-with_all body bodies (Err place) = refl

pub with_all-push : (bodies : List (List ℕ)) (body : List ℕ) (read : Result (List (List ℕ)) ℕ)
    → with_all (bodies ++ body ∷ []) read ≡ with_all bodies (with_first body read)
with_all-push bodies body (Ok more) =
    ap (λ (l : List (List ℕ)). Ok l) (append_assoc bodies (body ∷ []) more)
with_all-push bodies body (Err place) = refl

-- whole records before bytes that are read from there on
pub read_records-append : (bodies : List (List ℕ)) (total most place : ℕ) (tail : List ℕ)
    → total ≡ length bodies + most → All IsBody bodies → 0 < length tail
    → read_records total place (open_records bodies ++ tail)
    ≡ with_all bodies (read_records most (place + length (open_records bodies)) tail)
read_records-append [] total most place tail is each some =
    ap (λ (n : ℕ). read_records n place tail) (omega (arith, is))
    ∙ ap (λ (n : ℕ). read_records most n tail) (omega arith)
    ∙ sym (with_all-empty (read_records most (place + 0) tail))
read_records-append (body ∷ bodies) total most place tail is each some =
    let after : List ℕ = open_records bodies ++ tail in
    let short : IsBody body = All-head IsBody body bodies each in
    let there : 0 < length after = omega (arith, some, length-append (open_records bodies) tail) in
    let size : length (open_records (body ∷ bodies)) ≡ 5 + length body + length (open_records bodies) =
    omega (arith, length-append (spelled body) (open_records bodies), length-spelled body) in
    ap (λ (l : List ℕ). read_records total place l) (open_records-cons body bodies tail)
    ∙ ap (λ (n : ℕ). read_records n place (1 ∷ (spelled body ++ after)))
    (omega (arith, is))
    ∙ read_records-spelled (length bodies + most) place body after short there
    ∙ ap (λ (read : Result (List (List ℕ)) ℕ). with_first body read)
    (read_records-append bodies (length bodies + most) most (place + (5 + length body)) tail refl
    (All-tail IsBody body bodies each) some)
    ∙ with_first-with_all body bodies
    (read_records most (place + (5 + length body) + length (open_records bodies)) tail)
    ∙ ap (λ (n : ℕ). with_all (body ∷ bodies) (read_records most n tail)) (omega (arith, size))

-- the rest after the open records begins with a gate that ends them
pub record IsEnd (most : ℕ) (bodies : List (List ℕ)) (rest : List ℕ)
    (read : Result (List (List ℕ)) ℕ) : Type 0 where
  pub gate : ℕ
  pub more : List ℕ
  pub begins : rest ≡ gate ∷ more
  pub ends : (gate ≢ 1) ⊎ (length bodies ≡ most)
  pub answer : read ≡ Ok bodies

-- or with a record that is cut
pub record IsCutEnd (most place : ℕ) (bodies : List (List ℕ)) (rest : List ℕ)
    (read : Result (List (List ℕ)) ℕ) : Type 0 where
  pub room : length bodies < most
  pub cut : IsCut rest
  pub answer : read ≡ Err (place + length (open_records bodies))

-- or there is nothing at all
pub record IsNone (place : ℕ) (bodies : List (List ℕ)) (rest : List ℕ)
    (read : Result (List (List ℕ)) ℕ) : Type 0 where
  pub first : bodies ≡ []
  pub empty : rest ≡ []
  pub answer : read ≡ Err place

-- bytes are open records and a rest, and what they are read as
pub record Read (most place : ℕ) (bytes : List ℕ) : Type 0 where
  pub bodies : List (List ℕ)
  pub rest : List ℕ
  pub whole : bytes ≡ open_records bodies ++ rest
  pub each : All IsBody bodies
  pub few : length bodies ≤ most
  pub ends : IsEnd most bodies rest (read_records most place bytes)
      ⊎ (IsCutEnd most place bodies rest (read_records most place bytes)
      ⊎ IsNone place bodies rest (read_records most place bytes))

-- less than a record and a gate after it is cut
pub IsCut-short : (rest : List ℕ) → length rest ≤ 4 + size_in rest → IsCut (1 ∷ rest)
IsCut-short rest short = record {
  rest = rest;
  begins = refl;
  cut = λ body gate more fits whole.
      let size : size_in rest ≡ length body =
      ap (λ (l : List ℕ). size_in l) whole ∙ size_in-spelled body (gate ∷ more) fits in
      omega (
        arith,
        short,
        size,
        ap length whole,
        length-append (spelled body) (gate ∷ more),
        length-spelled body,
      );
}

-- and the other way: an open gate with a record that is cut is read as a fault
pub read_records-IsCut : (most place : ℕ) (bytes : List ℕ) → AreBytes bytes → IsCut bytes
    → read_records (suc most) place bytes ≡ Err place
read_records-IsCut most place bytes are cut =
    let rest : List ℕ = cut.rest in
    let rest_are : AreBytes rest = λ i.
    subst (λ (l : List ℕ). AreBytes l) cut.begins are (suc i) in
    ap (λ (l : List ℕ). read_records (suc most) place l) cut.begins
    ∙ elim (cases_lt (4 + size_in rest) (length rest)) [
      | inl long ↦ absurd (not_cut rest rest_are long cut.cut)
      | inr short ↦ read_records-cut most place rest short
    ]
  where
    not_cut : (rest : List ℕ) → AreBytes rest → 4 + size_in rest < length rest
        → ((body : List ℕ) (gate : ℕ) (more : List ℕ) → IsBody body
        → rest ≢ spelled body ++ gate ∷ more) → ⊥
    not_cut rest are long cut =
        let body : List ℕ = take (size_in rest) (drop 4 rest) in
        let tail : List ℕ = drop (4 + size_in rest) rest in
        let size : length body ≡ size_in rest =
        length-take-le (size_in rest) (drop 4 rest) (omega (arith, long, length-drop 4 rest)) in
        let split : tail ≡ get_or tail 0 0 ∷ drop 1 tail =
        drop_more tail 0 0 (omega (arith, long, length-drop (4 + size_in rest) rest)) in
        cut body (get_or tail 0 0) (drop 1 tail) (omega (arith, size, size_in-lt rest are))
        (sym (spelled-size_in rest are (omega (arith, long)))
        ∙ ap (λ (l : List ℕ). spelled body ++ l) split)

-- a record before others that are read
Read-cons : (most place : ℕ) (body tail : List ℕ) → IsBody body → 0 < length tail
    → Read most (place + (5 + length body)) tail
    → Read (suc most) place (1 ∷ (spelled body ++ tail))
Read-cons most place body tail short some read =
    let bodies : List (List ℕ) = body ∷ read.bodies in
    let step : read_records (suc most) place (1 ∷ (spelled body ++ tail))
    ≡ with_first body (read_records most (place + (5 + length body)) tail) =
    read_records-spelled most place body tail short some in
    let first : (answer : Result (List (List ℕ)) ℕ)
    → read_records most (place + (5 + length body)) tail ≡ answer
    → read_records (suc most) place (1 ∷ (spelled body ++ tail)) ≡ with_first body answer =
    λ answer is. step ∙ ap (λ (r : Result (List (List ℕ)) ℕ). with_first body r) is in
    record {
      bodies = bodies;
      rest = read.rest;
      whole = ap (λ (l : List ℕ). 1 ∷ (spelled body ++ l)) read.whole
          ∙ sym (open_records-cons body read.bodies read.rest);
      each = All-cons IsBody body read.bodies short read.each;
      few = omega (arith, read.few);
      ends = elim read.ends [
        | inl end ↦ inl (record {
          gate = end.gate;
          more = end.more;
          begins = end.begins;
          ends = elim end.ends [
            | inl closed ↦ inl closed
            | inr all ↦ inr (omega (arith, all))
          ];
          answer = first (Ok read.bodies) end.answer;
        })
        | inr other ↦ elim other [
          | inl cut ↦ inr (inl (record {
            room = omega (arith, cut.room);
            cut = cut.cut;
            answer = first (Err (place + (5 + length body) + length (open_records read.bodies)))
                cut.answer
                ∙ ap (λ (n : ℕ). Err n) (omega (
                  arith,
                  length-spelled body,
                  length-append (spelled body) (open_records read.bodies),
                ));
          }))
          | inr none ↦ absurd (omega (
            arith,
            some,
            ap length (read.whole
                ∙ ap (λ (l : List (List ℕ)). open_records l ++ read.rest) none.first
                ∙ none.empty),
          ))
        ]
      ];
    }

-- an open gate with less after it than a record and a gate
Read-cut : (most place : ℕ) (rest : List ℕ) → length rest ≤ 4 + size_in rest
    → Read (suc most) place (1 ∷ rest)
Read-cut most place rest short = record {
  bodies = [];
  rest = 1 ∷ rest;
  whole = refl;
  each = All-nil IsBody;
  few = omega arith;
  ends = inr (inl (record {
    room = omega arith;
    cut = IsCut-short rest short;
    answer = read_records-cut most place rest short ∙ ap (λ (n : ℕ). Err n) (omega arith);
  }));
}

-- an open gate
Read-open : (most place : ℕ) (rest : List ℕ) → AreBytes rest
    → ((at : ℕ) (bytes : List ℕ) → AreBytes bytes → Read most at bytes)
    → Read (suc most) place (1 ∷ rest)
Read-open most place rest are others = elim (cases_lt (4 + size_in rest) (length rest)) [
  | inl long ↦
      let body : List ℕ = take (size_in rest) (drop 4 rest) in
      let tail : List ℕ = drop (4 + size_in rest) rest in
      let size : length body ≡ size_in rest =
      length-take-le (size_in rest) (drop 4 rest) (omega (arith, long, length-drop 4 rest)) in
      let some : 0 < length tail = omega (arith, long, length-drop (4 + size_in rest) rest) in
      subst (λ (l : List ℕ). Read (suc most) place (1 ∷ l))
      (spelled-size_in rest are (omega (arith, long)))
      (Read-cons most place body tail (omega (arith, size, size_in-lt rest are)) some
      (others (place + (5 + length body)) tail (AreBytes-drop (4 + size_in rest) rest are)))
  | inr short ↦ Read-cut most place rest short
]

-- a gate that is not open
Read-closed : (most place gate : ℕ) (rest : List ℕ) → gate ≢ 1
    → Read (suc most) place (gate ∷ rest)
Read-closed most place gate rest closed = record {
  bodies = [];
  rest = gate ∷ rest;
  whole = refl;
  each = All-nil IsBody;
  few = omega arith;
  ends = inl (record {
    gate = gate;
    more = rest;
    begins = refl;
    ends = inl closed;
    answer = read_records-closed most place gate rest closed;
  });
}

-- what any bytes are read as
pub Read-each : (most place : ℕ) (bytes : List ℕ) → AreBytes bytes → Read most place bytes
Read-each most place [] are = record {
  bodies = [];
  rest = [];
  whole = refl;
  each = All-nil IsBody;
  few = omega arith;
  ends = inr (inr (record {
    first = refl;
    empty = refl;
    answer = read_records-none most place;
  }));
}
Read-each zero place (gate ∷ rest) are = record {
  bodies = [];
  rest = gate ∷ rest;
  whole = refl;
  each = All-nil IsBody;
  few = omega arith;
  ends = inl (record {
    gate = gate;
    more = rest;
    begins = refl;
    ends = inr refl;
    answer = read_records-all place gate rest;
  });
}
Read-each (suc most) place (gate ∷ rest) are = elim (cases_eq gate 1) [
  | inl open_gate ↦ subst (λ (byte : ℕ). Read (suc most) place (byte ∷ rest)) (sym open_gate)
      (Read-open most place rest (λ i. are (suc i)) (Read-each most))
  | inr closed ↦ Read-closed most place gate rest closed
]
