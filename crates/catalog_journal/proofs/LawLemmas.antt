-- The law of the catalogue's bytes, from what any bytes are read as.
use Rattle.std.proofs.Common.{◌≡◌, ℕ, suc, ◌+◌, ◌-◌, ◌<◌, ◌≤◌, ◌≢◌, ◌⊎◌, All, List, [], ◌∷◌, ◌++◌}
use Rattle.std.proofs.Common.{zero, length, drop, refl, sym, ◌∙◌, ap, subst, arith, Ok, Err}
use Rattle.std.specs.declared.result.Result.{Result}
use Rattle.std.proofs.lemmas.List.{append-nil, drop_at}
use Rattle.std.proofs.lemmas.List.Elements.{All-nil}
use mathlib.Core.Logic.{inl, inr}
use Rattle.catalog_journal.specs.Catalog.{IsBody, IsCatalog, IsCut, IsDamaged}
use Rattle.catalog_journal.specs.Catalog.{MOST_RECORDS, open_records}
use Rattle.catalog_journal.specs.Reading.{at_least_one, read_catalog, read_records, with_all}
use Rattle.catalog_journal.specs.Laws.{AreBytes, CatalogsHaveOneReading}
use Rattle.catalog_journal.proofs.SpellLemmas.{AreBytes-drop}
use Rattle.catalog_journal.proofs.ReadLemmas.{IsEnd, Read, Read-each}
use Rattle.catalog_journal.proofs.ReadLemmas.{read_records-IsCut, read_records-all}
use Rattle.catalog_journal.proofs.ReadLemmas.{read_records-append, read_records-closed}
use Rattle.catalog_journal.proofs.ReadLemmas.{read_records-none}

-- a list of one at least
pub at_least_one-some : (bodies : List (List ℕ)) → 1 ≤ length bodies → at_least_one (Ok bodies) ≡ Ok bodies
at_least_one-some [] some = absurd (omega (arith, some))
at_least_one-some (body ∷ bodies) some = refl

-- a gate that ends the records, if they may be so many more
read-end : (most place gate : ℕ) (rest : List ℕ) → (gate ≢ 1) ⊎ (most ≡ 0)
    → read_records most place (gate ∷ rest) ≡ Ok []
read-end zero place gate rest ends = read_records-all place gate rest
read-end (suc most) place gate rest (inl closed) = read_records-closed most place gate rest closed
read-end (suc most) place gate rest (inr none) = absurd (omega (arith, none))

-- what a catalogue is read as, of any greatest number
read-whole : (most place gate : ℕ) (bodies : List (List ℕ)) (rest : List ℕ)
    → All IsBody bodies → length bodies ≤ most → (gate ≢ 1) ⊎ (length bodies ≡ most)
    → read_records most place (open_records bodies ++ gate ∷ rest) ≡ Ok bodies
read-whole most place gate bodies rest each few ends =
    let left : ℕ = most - length bodies in
    let last : (gate ≢ 1) ⊎ (left ≡ 0) = elim ends [
      | inl closed ↦ inl closed
      | inr all ↦ inr (omega (arith, all))
    ] in
    read_records-append bodies most left place (gate ∷ rest) (omega (arith, few)) each (omega arith)
    ∙ ap (λ (read : Result (List (List ℕ)) ℕ). with_all bodies read)
    (read-end left (place + length (open_records bodies)) gate rest last)
    ∙ ap (λ (l : List (List ℕ)). Ok l) (append-nil bodies)

again : (bytes : List ℕ) (bodies : List (List ℕ)) → IsCatalog bytes bodies
    → read_catalog bytes ≡ Ok bodies
again bytes bodies is =
    ap (λ (l : List ℕ). read_catalog l) is.whole
    ∙ ap at_least_one (read-whole MOST_RECORDS 0 is.gate bodies is.rest is.each is.few is.ends)
    ∙ at_least_one-some bodies is.some

-- what is read is what stands there
catalog-of : (most : ℕ) (bytes : List ℕ) (bodies : List (List ℕ)) → most ≡ MOST_RECORDS
    → Read most 0 bytes → at_least_one (read_records most 0 bytes) ≡ Ok bodies
    → IsCatalog bytes bodies
catalog-of most bytes bodies same read is = elim read.ends [
  | inl end ↦ from_end read.bodies read.whole read.each read.few end
      (ap at_least_one (sym end.answer) ∙ is)
  | inr other ↦ elim other [
    | inl cut ↦ absurd (no_fault (ap at_least_one (sym cut.answer) ∙ is))
    | inr none ↦ absurd (no_fault (ap at_least_one (sym none.answer) ∙ is))
  ]
]
  where
    no_fault : {place : ℕ} → at_least_one (Err place) ≡ Ok bodies → ⊥
    no_fault fault = cc

    from_end : (found : List (List ℕ)) → bytes ≡ open_records found ++ read.rest
        → All IsBody found → length found ≤ most
        → IsEnd most found read.rest (read_records most 0 bytes)
        → at_least_one (Ok found) ≡ Ok bodies → IsCatalog bytes bodies
    from_end [] whole each few end answer = absurd (cc)
    from_end (body ∷ found) whole each few end answer =
        let told : body ∷ found ≡ bodies = cc in
        subst (λ (l : List (List ℕ)). IsCatalog bytes l) told (record {
          gate = end.gate;
          rest = end.more;
          whole = whole ∙ ap (λ (l : List ℕ). open_records (body ∷ found) ++ l) end.begins;
          ends = elim end.ends [
            | inl closed ↦ inl closed
            | inr all ↦ inr (all ∙ same)
          ];
          each = each;
          some = omega arith;
          few = omega (arith, few, same);
        })

pub alone : (bytes : List ℕ) (bodies : List (List ℕ)) → AreBytes bytes
    → read_catalog bytes ≡ Ok bodies → IsCatalog bytes bodies
alone bytes bodies are is =
    catalog-of MOST_RECORDS bytes bodies refl (Read-each MOST_RECORDS 0 bytes are) is

-- a fault that is read is a fault that is there
damage-of : (most : ℕ) (bytes : List ℕ) (place : ℕ) → most ≡ MOST_RECORDS
    → Read most 0 bytes → at_least_one (read_records most 0 bytes) ≡ Err place
    → IsDamaged bytes place
damage-of most bytes place same read is = elim read.ends [
  | inl end ↦ from_end read.bodies read.whole read.each end
      (ap at_least_one (sym end.answer) ∙ is)
  | inr other ↦ elim other [
    | inl cut ↦ record {
      bodies = read.bodies;
      rest = read.rest;
      whole = read.whole;
      at = here (ap at_least_one (sym cut.answer) ∙ is) ∙ omega arith;
      few = omega (arith, cut.room, same);
      each = read.each;
      fault = inl cut.cut;
    }
    | inr none ↦ record {
      bodies = [];
      rest = [];
      whole = read.whole ∙ ap (λ (l : List (List ℕ)). open_records l ++ read.rest) none.first
          ∙ none.empty;
      at = here (ap at_least_one (sym none.answer) ∙ is);
      few = omega arith;
      each = All-nil IsBody;
      fault = inr (refl, λ more other. absurd (cc));
    }
  ]
]
  where
    same_gate : {gate : ℕ} {more others : List ℕ} → gate ∷ more ≡ 1 ∷ others → gate ≡ 1
    same_gate told = cc

    here : {fault : ℕ} → at_least_one (Err fault) ≡ Err place → place ≡ fault
    here told = cc

    from_end : (found : List (List ℕ)) → bytes ≡ open_records found ++ read.rest
        → All IsBody found → IsEnd most found read.rest (read_records most 0 bytes)
        → at_least_one (Ok found) ≡ Err place → IsDamaged bytes place
    from_end (body ∷ found) whole each end answer = absurd (cc)
    from_end [] whole each end answer = record {
      bodies = [];
      rest = read.rest;
      whole = whole;
      at = cc;
      few = omega arith;
      each = All-nil IsBody;
      fault = inr (
        refl,
        λ more other. elim end.ends [
          | inl closed ↦ closed (same_gate (sym end.begins ∙ other))
          | inr all ↦ absurd (omega (arith, all, same))
        ],
      );
    }

fault : (bytes : List ℕ) (place : ℕ) → AreBytes bytes
    → read_catalog bytes ≡ Err place → IsDamaged bytes place
fault bytes place are is =
    damage-of MOST_RECORDS bytes place refl (Read-each MOST_RECORDS 0 bytes are) is

-- open records before one that is cut
read-damaged : (most : ℕ) (bodies : List (List ℕ)) (rest : List ℕ) → All IsBody bodies
    → length bodies < most → AreBytes rest → IsCut rest
    → read_records most 0 (open_records bodies ++ rest) ≡ Err (length (open_records bodies))
read-damaged most bodies rest each few are cut =
    let left : ℕ = most - (length bodies + 1) in
    let there : 0 < length rest = omega (arith, ap length cut.begins) in
    read_records-append bodies most (suc left) 0 rest (omega (arith, few)) each there
    ∙ ap (λ (read : Result (List (List ℕ)) ℕ). with_all bodies read)
    (read_records-IsCut left (0 + length (open_records bodies)) rest are cut)
    ∙ ap (λ (n : ℕ). Err n) (omega arith)

-- no record 0
read-without : (most : ℕ) (rest : List ℕ) → ((more : List ℕ) → rest ≢ 1 ∷ more)
    → at_least_one (read_records (suc most) 0 rest) ≡ Err 0
read-without most [] lacks = ap at_least_one (read_records-none (suc most) 0)
read-without most (gate ∷ rest) lacks = ap at_least_one (read_records-closed most 0 gate rest
    (λ is. lacks rest (ap (λ (byte : ℕ). byte ∷ rest) is)))

damaged-of : (most : ℕ) (bytes : List ℕ) (place : ℕ) → suc most ≡ MOST_RECORDS
    → AreBytes bytes → IsDamaged bytes place
    → at_least_one (read_records (suc most) 0 bytes) ≡ Err place
damaged-of most bytes place same are is = elim is.fault [
  | inl cut ↦
      ap (λ (l : List ℕ). at_least_one (read_records (suc most) 0 l)) is.whole
      ∙ ap at_least_one (read-damaged (suc most) is.bodies is.rest is.each
      (omega (arith, is.few, same)) rest_are cut)
      ∙ ap (λ (n : ℕ). Err n) (sym is.at)
  | inr lacks ↦
      ap (λ (l : List ℕ). at_least_one (read_records (suc most) 0 l))
      (is.whole ∙ ap (λ (l : List (List ℕ)). open_records l ++ is.rest) lacks.0)
      ∙ read-without most is.rest lacks.1
      ∙ ap (λ (n : ℕ). Err n)
      (sym (is.at ∙ ap (λ (l : List (List ℕ)). length (open_records l)) lacks.0))
]
  where
    rest_are : AreBytes is.rest
    rest_are = subst (λ (l : List ℕ). AreBytes l)
        (ap (λ (l : List ℕ). drop (length (open_records is.bodies)) l) is.whole
        ∙ drop_at (open_records is.bodies) is.rest (length (open_records is.bodies)) refl)
        (AreBytes-drop (length (open_records is.bodies)) bytes are)

damaged : (bytes : List ℕ) (place : ℕ) → AreBytes bytes
    → IsDamaged bytes place → read_catalog bytes ≡ Err place
damaged bytes place are is =
    subst (λ (most : ℕ). at_least_one (read_records most 0 bytes) ≡ Err place)
    (omega arith) (damaged-of (MOST_RECORDS - 1) bytes place (omega arith) are is)

pub catalogs-have-one-reading : CatalogsHaveOneReading
catalogs-have-one-reading = record {
  again = again;
  alone = alone;
  fault = fault;
  damaged = damaged;
}
