-- A catalogue's file when something is written after its last gate, or over that gate. The first
-- half speaks of any bytes `front ++ gate ∷ rest`.
use Rattle.std.proofs.Common.{◌≡◌, ℕ, ◌+◌, ◌<◌, ◌≤◌, ◌⊎◌, min, All, List, [], ◌∷◌, ◌++◌}
use Rattle.std.proofs.Common.{length, take, drop, get_or, refl, sym, ◌∙◌, ap, subst, arith}
use Rattle.std.proofs.lemmas.Bool.{cases_eq}
use Rattle.std.proofs.lemmas.List.{append_assoc, drop-drop, drop_at, drop_more, length-append}
use Rattle.std.proofs.lemmas.List.{take-append-drop, take_at}
use Rattle.std.proofs.lemmas.List.Elements.{All-push}
use mathlib.Core.Logic.{inl, inr}
use Rattle.depot_disk.specs.Image.{overwritten}
use Rattle.depot_disk.specs.Torn.{TornBytes}
use Rattle.catalog_journal.specs.Catalog.{IsBody, IsCatalog, MOST_RECORDS, framed, open_records}
use Rattle.catalog_journal.specs.Catalog.{spelled}
use Rattle.catalog_journal.proofs.SpellLemmas.{open_records-push}

-- how long they are
length-around : (front rest : List ℕ) (gate : ℕ)
    → length (front ++ gate ∷ rest) ≡ length front + 1 + length rest
length-around front rest gate = omega (arith, length-append front (gate ∷ rest))

-- the front and the gate
take-gate : (front rest : List ℕ) (gate : ℕ)
    → take (length front + 1) (front ++ gate ∷ rest) ≡ front ++ gate ∷ []
take-gate front rest gate =
    ap (λ (l : List ℕ). take (length front + 1) l) (sym (append_assoc front (gate ∷ []) rest))
    ∙ take_at (front ++ gate ∷ []) rest (length front + 1)
    (omega (arith, length-append front (gate ∷ [])))

-- what stands after the gate
drop-gate : (front rest : List ℕ) (gate : ℕ)
    → drop (length front + 1) (front ++ gate ∷ rest) ≡ rest
drop-gate front rest gate =
    ap (λ (l : List ℕ). drop (length front + 1) l) (sym (append_assoc front (gate ∷ []) rest))
    ∙ drop_at (front ++ gate ∷ []) rest (length front + 1)
    (omega (arith, length-append front (gate ∷ [])))

-- a torn write after the gate
pub torn-after : (front rest new : List ℕ) (gate count : ℕ)
    → TornBytes (length front + 1) count (front ++ gate ∷ rest) new
    → new ≡ front ++ gate ∷ drop (length front + 1) new
torn-after front rest new gate count torn =
    let place : ℕ = length front + 1 in
    let all : min place (length (front ++ gate ∷ rest)) ≡ place =
    omega (arith, length-around front rest gate) in
    let before : take place new ≡ front ++ gate ∷ [] =
    ap (λ (n : ℕ). take n new) (sym all) ∙ torn.before ∙ take-gate front rest gate in
    sym (take-append-drop place new)
    ∙ ap (λ (l : List ℕ). l ++ drop place new) before
    ∙ append_assoc front (gate ∷ []) (drop place new)

-- a torn write of the gate
pub torn-gate : (front rest new : List ℕ) (gate : ℕ)
    → TornBytes (length front) 1 (front ++ gate ∷ rest) new
    → (other : ℕ) × (new ≡ front ++ other ∷ rest)
torn-gate front rest new gate torn =
    let place : ℕ = length front in
    let size : length (front ++ gate ∷ rest) ≡ place + 1 + length rest =
    length-around front rest gate in
    let before : take place new ≡ front =
    ap (λ (n : ℕ). take n new) (omega (arith, size)) ∙ torn.before
    ∙ take_at front (gate ∷ rest) place refl in
    let after : drop (place + 1) new ≡ rest = torn.after ∙ drop-gate front rest gate in
    let here : drop place new ≡ get_or new place 0 ∷ drop (place + 1) new =
    drop_more new place 0 (omega (arith, size, torn.no_shorter)) in (
      get_or new place 0,
      sym (take-append-drop place new)
          ∙ ap (λ (l : List ℕ). l ++ drop place new) before
          ∙ ap (λ (l : List ℕ). front ++ l) here
          ∙ ap (λ (l : List ℕ). front ++ get_or new place 0 ∷ l) after,
    )

-- a whole write after the gate
pub overwritten-after : (front rest more : List ℕ) (gate : ℕ)
    → overwritten (front ++ gate ∷ rest) (length front + 1) more
    ≡ front ++ gate ∷ (more ++ drop (length more) rest)
overwritten-after front rest more gate =
    let old : List ℕ = front ++ gate ∷ rest in
    let place : ℕ = length front + 1 in
    let after : drop (place + length more) old ≡ drop (length more) rest =
    sym (drop-drop (length more) place old)
    ∙ ap (λ (l : List ℕ). drop (length more) l) (drop-gate front rest gate) in
    ap (λ (l : List ℕ). (l ++ more) ++ drop (place + length more) old) (take-gate front rest gate)
    ∙ ap (λ (l : List ℕ). ((front ++ gate ∷ []) ++ more) ++ l) after
    ∙ append_assoc (front ++ gate ∷ []) more (drop (length more) rest)
    ∙ append_assoc front (gate ∷ []) (more ++ drop (length more) rest)

-- a whole write of the gate
pub overwritten-gate : (front rest : List ℕ) (gate other : ℕ)
    → overwritten (front ++ gate ∷ rest) (length front) (other ∷ []) ≡ front ++ other ∷ rest
overwritten-gate front rest gate other =
    let old : List ℕ = front ++ gate ∷ rest in
    ap (λ (l : List ℕ). (l ++ other ∷ []) ++ drop (length front + 1) old)
    (take_at front (gate ∷ rest) (length front) refl)
    ∙ ap (λ (l : List ℕ). (front ++ other ∷ []) ++ l) (drop-gate front rest gate)
    ∙ append_assoc front (other ∷ []) rest

-- a catalogue is one still if anything is written after its gate
pub IsCatalog-after : (old new : List ℕ) (bodies : List (List ℕ)) (place count : ℕ)
    → place ≡ length (open_records bodies) + 1 → IsCatalog old bodies
    → TornBytes place count old new → IsCatalog new bodies
IsCatalog-after old new bodies place count at is torn = record {
  gate = is.gate;
  rest = drop (length (open_records bodies) + 1) new;
  whole = torn-after (open_records bodies) is.rest new is.gate count
      (subst (λ (l : List ℕ). TornBytes (length (open_records bodies) + 1) count l new) is.whole
      (subst (λ (n : ℕ). TornBytes n count old new) at torn));
  ends = is.ends;
  each = is.each;
  some = is.some;
  few = is.few;
}

-- a record after the last one, with an open gate
pub IsCatalog-opened : (bodies : List (List ℕ)) (body rest : List ℕ)
    → All IsBody bodies → IsBody body → length bodies < MOST_RECORDS
    → IsCatalog (open_records bodies ++ 1 ∷ (framed body ++ rest)) (bodies ++ body ∷ [])
IsCatalog-opened bodies body rest each short few = record {
  gate = 0;
  rest = rest;
  whole = ap (λ (l : List ℕ). open_records bodies ++ 1 ∷ l)
      (append_assoc (spelled body) (0 ∷ []) rest)
      ∙ sym (open_records-push bodies body (0 ∷ rest));
  ends = inl (λ is. omega (arith, is));
  each = All-push IsBody bodies body each short;
  some = omega (arith, length-append bodies (body ∷ []));
  few = omega (arith, few, length-append bodies (body ∷ []));
}

-- the same with any gate: it is open, or it is not
pub IsCatalog-any_gate : (bodies : List (List ℕ)) (body rest : List ℕ) (gate : ℕ)
    → All IsBody bodies → IsBody body → length bodies < MOST_RECORDS → 1 ≤ length bodies
    → IsCatalog (open_records bodies ++ gate ∷ (framed body ++ rest)) bodies
    ⊎ IsCatalog (open_records bodies ++ gate ∷ (framed body ++ rest)) (bodies ++ body ∷ [])
IsCatalog-any_gate bodies body rest gate each short few some = elim (cases_eq gate 1) [
  | inl open_gate ↦ inr (subst (λ (byte : ℕ).
      IsCatalog (open_records bodies ++ byte ∷ (framed body ++ rest)) (bodies ++ body ∷ []))
      (sym open_gate) (IsCatalog-opened bodies body rest each short few))
  | inr closed ↦ inl (record {
    gate = gate;
    rest = framed body ++ rest;
    whole = refl;
    ends = inl closed;
    each = each;
    some = some;
    few = omega (arith, few);
  })
]
