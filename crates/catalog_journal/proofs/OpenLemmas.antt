-- The records that were found so far, and what the rest is read as.
use Rattle.std.proofs.Common.{◌≡◌, ℕ, zero, suc, ◌+◌, ◌-◌, ◌<◌, All, List, [], ◌∷◌, ◌++◌, length, take, drop}
use Rattle.std.proofs.Common.{refl, sym, ◌∙◌, ap, subst, arith, Ok, Err, get_or}
use Rattle.std.specs.declared.result.Result.{Result}
use Rattle.std.proofs.lemmas.List.{append-nil, drop-drop, drop_more, length-drop, length-map, length-take-le, take_all}
use Rattle.std.proofs.lemmas.List.Elements.{All-nil, All-push}
use Rattle.std.proofs.lemmas.Bool.{false≢true}
use Rattle.std.specs.Prelude.{◌==◌, false}
use Rattle.catalog_journal.specs.declared.bodies.Span.{Span}
use Rattle.catalog_journal.specs.declared.gate.Gate.{Gate}
use Rattle.catalog_journal.specs.declared.gate.Gate.TheVariants.{Closed, Cut, Open}
use Rattle.catalog_journal.specs.declared.log.Log.{Log}
use Rattle.catalog_journal.specs.declared.open.Records.{Records}
use Rattle.catalog_journal.specs.Catalog.{MOST_RECORDS, open_records}
use Rattle.catalog_journal.specs.Gates.{IsGate, IsOpen}
use Rattle.catalog_journal.specs.Logs.{LiesWithin, bodies_at, bytes_at}
use Rattle.catalog_journal.specs.Reading.{at_least_one, read_catalog, read_records, with_all, with_first}
use Rattle.catalog_journal.specs.Answers.{HasFound, HasPlaces, IsReadAs}
use Rattle.catalog_journal.proofs.SpellLemmas.{length-open_records-push}
use Rattle.catalog_journal.proofs.LawLemmas.{alone, at_least_one-some}
use Rattle.catalog_journal.proofs.ReadLemmas.{read_records-all, with_all-empty, with_all-push}

-- the records found so far, with at most so many to come: the bodies of these, and what the rest
-- is read as, are what all is read as. A record that was found has a gate after it
pub record IsFound (bytes : List ℕ) (turns : ℕ) (records : Records) : Type 0 where
  pub places : HasPlaces bytes records
  pub gate : turns < MOST_RECORDS → records.end < length bytes
  pub reads : with_all (bodies_at bytes records.spans.items)
      (read_records turns records.end (drop records.end bytes))
      ≡ read_records MOST_RECORDS 0 bytes

-- bodies at spans, with one span more
bodies_at-push : (bytes : List ℕ) (spans : List Span) (span : Span)
    → bodies_at bytes (spans ++ span ∷ []) ≡ bodies_at bytes spans ++ bytes_at bytes span ∷ []
bodies_at-push bytes [] span = refl
bodies_at-push bytes (first ∷ spans) span =
    ap (λ (l : List (List ℕ)). bytes_at bytes first ∷ l) (bodies_at-push bytes spans span)

-- none was found yet
pub IsFound-start : (bytes : List ℕ) (records : Records) → records.spans.items ≡ []
    → records.end ≡ 0 → IsFound bytes MOST_RECORDS records
IsFound-start bytes records none start = record {
  places = record {
    place = start ∙ ap (λ (l : List Span). length (open_records (bodies_at bytes l))) (sym none);
    within = omega (arith, start);
    each = subst (λ (l : List Span). All (LiesWithin (length bytes)) l) (sym none)
        (All-nil (LiesWithin (length bytes)));
  };
  gate = λ less. absurd (omega (arith, less));
  reads = ap (λ (l : List Span). with_all (bodies_at bytes l)
      (read_records MOST_RECORDS records.end (drop records.end bytes))) none
      ∙ with_all-empty (read_records MOST_RECORDS records.end (drop records.end bytes))
      ∙ ap (λ (n : ℕ). read_records MOST_RECORDS n (drop n bytes)) start;
}

-- one more record
pub IsFound-push : (bytes : List ℕ) (turns len : ℕ) (old new : Records)
    → IsFound bytes (suc turns) old → IsOpen (drop old.end bytes) len
    → new.spans.items ≡ old.spans.items ++ record { start = old.end + 5; len = len } ∷ []
    → new.end ≡ old.end + (5 + len) → IsFound bytes turns new
IsFound-push bytes turns len old new found gate spans end =
    let span : Span = record { start = old.end + 5; len = len } in
    let rest : List ℕ = drop old.end bytes in
    let before : List (List ℕ) = bodies_at bytes old.spans.items in
    let here : bytes_at bytes span ≡ take len (drop 5 rest) =
    ap (λ (l : List ℕ). take len l) (ap (λ (n : ℕ). drop n bytes) (omega arith)
    ∙ sym (drop-drop 5 old.end bytes)) in
    let body : List ℕ = take len (drop 5 rest) in
    let size : length body ≡ len =
    length-take-le len (drop 5 rest) (omega (arith, gate.whole, length-drop 5 rest)) in
    let bodies : bodies_at bytes new.spans.items ≡ before ++ body ∷ [] =
    ap (λ (l : List Span). bodies_at bytes l) spans
    ∙ bodies_at-push bytes old.spans.items span
    ∙ ap (λ (l : List ℕ). before ++ l ∷ []) here in
    let others : drop new.end bytes ≡ drop (5 + len) rest =
    ap (λ (n : ℕ). drop n bytes) (omega (arith, end)) ∙ sym (drop-drop (5 + len) old.end bytes) in
    let more : new.end < length bytes =
    omega (arith, end, gate.whole, length-drop old.end bytes) in
    record {
      places = record {
        place = omega (
          arith,
          end,
          found.places.place,
          size,
          ap (λ (l : List (List ℕ)). length (open_records l)) bodies,
          length-open_records-push before body,
        );
        within = omega (arith, more);
        each = subst (λ (l : List Span). All (LiesWithin (length bytes)) l) (sym spans)
            (All-push (LiesWithin (length bytes)) old.spans.items span found.places.each
            (omega (arith, more, end)));
      };
      gate = λ _. more;
      reads = ap (λ (l : List (List ℕ)). with_all l
          (read_records turns new.end (drop new.end bytes))) bodies
          ∙ with_all-push before body (read_records turns new.end (drop new.end bytes))
          ∙ ap (λ (n : ℕ). with_all before (with_first body (read_records turns n (drop new.end bytes)))) end
          ∙ ap (λ (l : List ℕ). with_all before (with_first body
          (read_records turns (old.end + (5 + len)) l))) others
          ∙ ap (λ (read : Result (List (List ℕ)) ℕ). with_all before read) (sym (gate.reads turns old.end))
          ∙ found.reads;
    }

-- what all is read as, once the rest is read
pub IsFound-reads : (bytes : List ℕ) (turns : ℕ) (records : Records)
    (rest : Result (List (List ℕ)) ℕ) → IsFound bytes turns records
    → read_records turns records.end (drop records.end bytes) ≡ rest
    → read_records MOST_RECORDS 0 bytes ≡ with_all (bodies_at bytes records.spans.items) rest
IsFound-reads bytes turns records rest found is =
    sym found.reads
    ∙ ap (λ (read : Result (List (List ℕ)) ℕ). with_all (bodies_at bytes records.spans.items) read) is

-- the rest has no record
pub IsFound-last : (bytes : List ℕ) (turns : ℕ) (records : Records) → IsFound bytes turns records
    → read_records turns records.end (drop records.end bytes) ≡ Ok []
    → read_records MOST_RECORDS 0 bytes ≡ Ok (bodies_at bytes records.spans.items)
IsFound-last bytes turns records found is =
    IsFound-reads bytes turns records (Ok []) found is
    ∙ ap (λ (l : List (List ℕ)). Ok l) (append-nil (bodies_at bytes records.spans.items))

-- there are as many as there may be
pub IsFound-all : (bytes : List ℕ) (records : Records) → IsFound bytes 0 records
    → read_records MOST_RECORDS 0 bytes ≡ Ok (bodies_at bytes records.spans.items)
IsFound-all bytes records found =
    let rest : List ℕ = drop records.end bytes in
    let more : records.end < length bytes = found.gate (omega arith) in
    let split : rest ≡ get_or bytes records.end 0 ∷ drop (records.end + 1) bytes =
    drop_more bytes records.end 0 more in
    IsFound-last bytes 0 records found
    (ap (λ (l : List ℕ). read_records 0 records.end l) split
    ∙ read_records-all records.end (get_or bytes records.end 0) (drop (records.end + 1) bytes))

-- what stands from a place on, as a slice has it
slice-rest : (bytes : List ℕ) (at : ℕ) → take (length bytes - at) (drop at bytes) ≡ drop at bytes
slice-rest bytes at = take_all (length bytes - at) (drop at bytes) (omega (arith, length-drop at bytes))

gate-rest : (bytes : List ℕ) (at : ℕ) (gate : Gate)
    → IsGate (take (length bytes - at) (drop at bytes)) gate → IsGate (drop at bytes) gate
gate-rest bytes at gate is = subst (λ (l : List ℕ). IsGate l gate) (slice-rest bytes at) is

-- a turn of the loop, of which there are that many before it
module _ (bytes : List ℕ) (counter : ℕ) (records : Records) (more : counter < MOST_RECORDS)
    (found : IsFound bytes (MOST_RECORDS - counter) records) where
  turn : IsFound bytes (suc (MOST_RECORDS - (counter + 1))) records
  turn = subst (λ (n : ℕ). IsFound bytes n records) (omega (arith, more)) found

  -- it finds a record
  pub IsFound-open : (len : ℕ) (new : Records)
      → IsGate (take (length bytes - records.end) (drop records.end bytes)) (Open len)
      → new.spans.items ≡ records.spans.items ++ record { start = records.end + 5; len = len } ∷ []
      → new.end ≡ records.end + (5 + len) → IsFound bytes (MOST_RECORDS - (counter + 1)) new
  IsFound-open len new gate spans end =
      IsFound-push bytes (MOST_RECORDS - (counter + 1)) len records new turn
      (gate-rest bytes records.end (Open len) gate) spans end

  -- or a closed gate
  pub IsFound-closed : IsGate (take (length bytes - records.end) (drop records.end bytes)) Closed
      → read_records MOST_RECORDS 0 bytes ≡ Ok (bodies_at bytes records.spans.items)
  IsFound-closed gate = IsFound-last bytes (suc (MOST_RECORDS - (counter + 1))) records turn
      (gate-rest bytes records.end Closed gate (MOST_RECORDS - (counter + 1)) records.end)

  -- or a fault
  pub IsFound-cut : IsGate (take (length bytes - records.end) (drop records.end bytes)) Cut
      → read_records MOST_RECORDS 0 bytes ≡ Err records.end
  IsFound-cut gate = IsFound-reads bytes (suc (MOST_RECORDS - (counter + 1))) records
      (Err records.end) turn
      (gate-rest bytes records.end Cut gate (MOST_RECORDS - (counter + 1)) records.end)

-- what is found is what is read
pub IsReadAs-some : (bytes : List ℕ) (records : Records) (log : Log) → HasFound bytes (Ok records)
    → 0 < length records.spans.items → log.end ≡ records.end → log.count ≡ length records.spans.items
    → IsReadAs bytes (Ok (log, bodies_at bytes records.spans.items))
IsReadAs-some bytes records log found some end count =
    let bodies : List (List ℕ) = bodies_at bytes records.spans.items in
    let many : length bodies ≡ length records.spans.items = length-map records.spans.items (bytes_at bytes) in
    let read : read_catalog bytes ≡ Ok bodies =
    ap at_least_one found.2 ∙ at_least_one-some bodies (omega (arith, many, some)) in (
      read,
      alone bytes bodies found.1 read,
      record { end = end ∙ found.0.place; count = omega (arith, count, many) },
    )

-- a number that is not 0
pub some-count : (count : ℕ) → false ≡ (count == 0) → 0 < count
some-count zero is = absurd (false≢true is)
some-count (suc count) is = omega arith
