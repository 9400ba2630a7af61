-- Reading the records of a text one by one, with the default setup. `Yields` says which records a
-- reader gives from here on: `Yields-start` is for a new one, `Yields-step` and `Yields-empty` are
-- for a read.
use Rattle.std.proofs.Common.{◌≡◌, ◌∙◌, ◌+◌, ◌-◌, ◌<◌, ◌≤◌, ◌∷◌, [], ℕ, zero, suc, List, Option}
use Rattle.std.proofs.Common.{Some, None, length, refl, sym, ap, true, false, arith, inl, inr}
use Rattle.std.specs.Prelude.{IfSome}
use Rattle.std.proofs.lemmas.Bool.{cases_Bool}
use Rattle.csv.proofs.ReadFacts.{rows-end, rows-more}
use Rattle.csv.specs.Machine.{Read, ends_at_end, field_after, fields_after, in_field, is_end}
use Rattle.csv.specs.Machine.{next_record, step}
use Rattle.csv.specs.Reading.{Reached, ReadRecord, Ready, default_config, reader_config}
use Rattle.csv.specs.Reading.{reader_state, reader_trim, records, records_from, records_next}
use Rattle.csv.specs.Reading.{source_of, strip_bom, took_first}
use Rattle.csv.specs.declared.parser.State.{State}
use Rattle.csv.specs.declared.parser.State.TheVariants as st
use Rattle.csv.specs.declared.reader.Reader.{Reader}
use Rattle.csv.specs.declared.reader.Trim.TheVariants as trim

-- what a read of a record leaves: no more text, and a state between two records
record Leaves (text : List ℕ) (read : Read) : Type 0 where
  pub less : length read.2 ≤ length text
  pub between : ends_at_end read.1 ≡ false

-- the same if the read took something
record LeavesLess (text : List ℕ) (read : Read) : Type 0 where
  pub less : length read.2 < length text
  pub between : ends_at_end read.1 ≡ false

-- a byte that ends a record in a field leaves the machine between two records
in_field-between : (byte : ℕ) → is_end (in_field default_config byte).1 ≡ true
    → ends_at_end (in_field default_config byte).0 ≡ false
in_field-between byte ends = grind arith

-- so does one that ends a record in any state
step-between : (state : State) (byte : ℕ) → is_end (step default_config state byte).1 ≡ true
    → ends_at_end (step default_config state byte).0 ≡ false
step-between st.StartRecord byte ends = grind (arith, in_field-between)
step-between st.StartField byte ends = grind (arith, in_field-between)
step-between st.InField byte ends = in_field-between byte ends
step-between st.InQuoted byte ends = grind arith
step-between st.InEscape byte ends = grind arith
step-between st.AfterQuote byte ends = grind (arith, in_field-between)
step-between st.InComment byte ends = grind arith
step-between st.AfterCr byte ends = grind (arith, in_field-between)

-- with a byte more in front, that was taken, the read took something
LeavesLess-push : (byte : ℕ) (text : List ℕ) (read : Option Read)
    → IfSome read (Leaves text) → IfSome read (LeavesLess (byte ∷ text))
LeavesLess-push byte text None leaves = tt
LeavesLess-push byte text (Some read) leaves =
    record { less = omega arith; between = leaves.between }

-- with a byte more in front, that was taken, no more text is left either
Leaves-push : (byte : ℕ) (text : List ℕ) (read : Option Read)
    → IfSome read (Leaves text) → IfSome read (Leaves (byte ∷ text))
Leaves-push byte text None leaves = tt
Leaves-push byte text (Some read) leaves = record { less = omega arith; between = leaves.between }

-- a read leaves no more text than it had
next_record-Leaves : (state : State) (fields : List (List ℕ)) (field text : List ℕ)
    → IfSome (next_record default_config state fields field text) (Leaves text)
unfolding next_record
next_record-Leaves state fields field [] =
    elim (cases_Bool (ends_at_end state)) [
      | inl ends ↦ rw ends (record { less = omega arith; between = refl })
      | inr goes ↦ rw goes tt
    ]
next_record-Leaves state fields field (byte ∷ text) =
    elim (cases_Bool (is_end (step default_config state byte).1)) [
      | inl ends ↦ rw ends (record { less = omega arith; between = step-between state byte ends })
      | inr goes ↦ rw goes (Leaves-push byte text _
          (next_record-Leaves (step default_config state byte).0
          (fields_after (step default_config state byte).1 fields field)
          (field_after (step default_config state byte).1 byte field) text))
    ]

-- from between two records a read takes something
next_record-LeavesLess : (state : State) (text : List ℕ) → ends_at_end state ≡ false
    → IfSome (next_record default_config state [] [] text) (LeavesLess text)
unfolding next_record
next_record-LeavesLess state [] between = rw between tt
next_record-LeavesLess state (byte ∷ text) between =
    elim (cases_Bool (is_end (step default_config state byte).1)) [
      | inl ends ↦ rw ends (record { less = omega arith; between = step-between state byte ends })
      | inr goes ↦ rw goes (LeavesLess-push byte text _
          (next_record-Leaves (step default_config state byte).0
          (fields_after (step default_config state byte).1 [] [])
          (field_after (step default_config state byte).1 byte []) text))
    ]

-- a record and those after it are no more than the bytes, if those after it are no more than
-- theirs
records_next-le : (turns : ℕ) (text : List ℕ) (read : Option Read)
    → IfSome read (LeavesLess text)
    → ((state : State) (left : List ℕ) → ends_at_end state ≡ false
    → length (records_from default_config turns state left) ≤ length left)
    → length (records_next (records_from default_config turns) read) ≤ length text
records_next-le turns text None leaves short = omega arith
records_next-le turns text (Some read) leaves short =
    let others = short read.1 read.2 leaves.between in
    let less = leaves.less in
    omega arith

-- there are no more records than bytes
records_from-le : (turns : ℕ) (state : State) (text : List ℕ) → ends_at_end state ≡ false
    → length (records_from default_config turns state text) ≤ length text
unfolding records_from
records_from-le zero state text between = omega arith
records_from-le (suc turns) state text between = records_next-le turns text _
    (next_record-LeavesLess state text between) (λ state left. records_from-le turns state left)

-- a text is no longer without its byte order mark
strip_bom-le : (text : List ℕ) → length (strip_bom text) ≤ length text
unfolding strip_bom
strip_bom-le [] = omega arith
strip_bom-le (_ ∷ []) = omega arith
strip_bom-le (_ ∷ _ ∷ []) = omega arith
strip_bom-le (first ∷ second ∷ third ∷ text) = grind arith

-- a text has no more records than bytes
pub records-le : (text : List ℕ) → length (records default_config (strip_bom text)) ≤ length text
records-le text =
    let stripped = strip_bom-le text in
    let short =
    records_from-le (length (strip_bom text) + 1) st.StartRecord (strip_bom text) refl in
    omega arith

-- the reader gives these records from here on, and then no more
pub record Yields {R : Type 0} (rem : R → Option (List ℕ)) (reader : Reader R)
    (rest : List (List (List ℕ))) : Type 0 where
  pub plain : reader_trim reader ≡ trim.None
  pub ready : Ready reader
  pub config : reader_config reader ≡ default_config
  pub between : ends_at_end (reader_state reader) ≡ false
  pub left : List ℕ
  pub source : source_of rem reader ≡ Some left
  pub turns : ℕ
  pub enough : length left < turns
  pub rest_is : rest ≡ records_from default_config turns (reader_state reader) left

-- a reader at the start of a text gives all its records
pub Yields-start : {R : Type 0} (rem : R → Option (List ℕ)) (reader : Reader R) (text : List ℕ)
    → reader_trim reader ≡ trim.None → Ready reader → reader_config reader ≡ default_config
    → reader_state reader ≡ st.StartRecord → source_of rem reader ≡ Some (strip_bom text)
    → Yields rem reader (records default_config (strip_bom text))
Yields-start rem reader text plain ready config state source = record {
  plain = plain;
  ready = ready;
  config = config;
  between = ap ends_at_end state;
  left = strip_bom text;
  source = source;
  turns = length (strip_bom text) + 1;
  enough = omega arith;
  rest_is = ap
      (λ (state : State).
      records_from default_config (length (strip_bom text) + 1) state (strip_bom text))
      (sym state);
}

-- a read that found a record took the first one
pub record YieldsMore {R : Type 0} (rem : R → Option (List ℕ)) (new : Reader R)
    (fields : List (List ℕ)) (rest : List (List (List ℕ))) : Type 0 where
  pub others : List (List (List ℕ))
  pub first : rest ≡ fields ∷ others
  pub yields : Yields rem new others

-- the parts of what was read, by other names
next-is : (next : Option Read) (fields : List (List ℕ)) (state : State) (left : List ℕ)
    (read : Read)
    → next ≡ Some read → fields ≡ read.0 → read.1 ≡ state → read.2 ≡ left
    → next ≡ Some (fields, state, left)
next-is next fields state left read found same_fields same_state same_left =
    rw (same_fields, ← same_state, ← same_left) found

-- the records from where one is found: that one, and those after it
records_from-step : (turns : ℕ) (state next : State) (text left : List ℕ) (fields : List (List ℕ))
    → 0 < turns
    → next_record default_config state [] [] text ≡ Some (fields, next, left)
    → records_from default_config turns state text
    ≡ fields ∷ records_from default_config (turns - 1) next left
unfolding records_from
records_from-step zero state next text left fields some found = absurd (omega arith)
records_from-step (suc turns) state next text left fields some found =
    let one_less : suc turns - 1 ≡ turns = omega arith in
    rw (one_less, found) refl

-- no record from where none is found
records_from-none : (turns : ℕ) (state : State) (text : List ℕ)
    → next_record default_config state [] [] text ≡ None
    → records_from default_config turns state text ≡ []
unfolding records_from
records_from-none zero state text none = refl
records_from-none (suc turns) state text none = rw none refl

-- what a read of a record shows of the text
record Found {R : Type 0} (rem : R → Option (List ℕ)) (old new : Reader R) (text : List ℕ)
    (fields : List (List ℕ)) : Type 0 where
  pub left : List ℕ
  pub source : source_of rem new ≡ Some left
  pub next : next_record default_config (reader_state old) [] [] text
      ≡ Some (fields, reader_state new, left)

-- a read that found a record shows the next record of the text
found-by : {R : Type 0} (rem : R → Option (List ℕ)) (old new : Reader R) (text : List ℕ)
    (fields : List (List ℕ))
    → reader_config old ≡ default_config → source_of rem old ≡ Some text
    → ReadRecord rem old new true fields
    → Found rem old new text fields
unfolding Reached
found-by rem old new text fields config source read =
    let more = rows-more rem old new fields default_config (reader_state old) text text []
    config source (refl, refl) read in
    record {
      left = more.0;
      source = more.1;
      next = next-is _ fields (reader_state new) more.0 more.2.0
          more.2.1 more.2.2 more.2.3.0 more.2.3.1;
    }

-- after a read that found a record the reader gives the records from what is left
Yields-left : {R : Type 0} (rem : R → Option (List ℕ)) (old new : Reader R)
    (fields : List (List ℕ)) (rest : List (List (List ℕ)))
    (yields : Yields rem old rest) (found : Found rem old new yields.left fields)
    → ReadRecord rem old new true fields → took_first new ≡ true
    → Yields rem new (records_from default_config (yields.turns - 1) (reader_state new) found.left)
Yields-left rem old new fields rest yields found read took =
    let leaves : LeavesLess yields.left (fields, reader_state new, found.left) =
    rw found.next at (next_record-LeavesLess (reader_state old) yields.left yields.between) in
    record {
      plain = read.3 ∙ yields.plain;
      ready = inl took;
      config = read.2 ∙ yields.config;
      between = leaves.between;
      left = found.left;
      source = found.source;
      turns = yields.turns - 1;
      enough = omega (arith, leaves.less, yields.enough);
      rest_is = refl;
    }

-- a read that found a record took the first of those to come
pub Yields-step : {R : Type 0} (rem : R → Option (List ℕ)) (old new : Reader R)
    (fields : List (List ℕ)) (rest : List (List (List ℕ)))
    → Yields rem old rest → ReadRecord rem old new true fields → took_first new ≡ true
    → YieldsMore rem new fields rest
Yields-step rem old new fields rest yields read took =
    let found = found-by rem old new yields.left fields yields.config yields.source read in
    record {
      others = records_from default_config (yields.turns - 1) (reader_state new) found.left;
      first = yields.rest_is ∙ records_from-step yields.turns (reader_state old) (reader_state new)
          yields.left found.left fields (omega (arith, yields.enough)) found.next;
      yields = Yields-left rem old new fields rest yields found read took;
    }

-- a read that found no record had none to come
pub Yields-empty : {R : Type 0} (rem : R → Option (List ℕ)) (old new : Reader R)
    (fields : List (List ℕ)) (rest : List (List (List ℕ)))
    → Yields rem old rest → ReadRecord rem old new false fields → rest ≡ []
Yields-empty rem old new fields rest yields read =
    let none =
    rows-end rem old new fields default_config yields.left yields.config yields.source read in
    yields.rest_is ∙ records_from-none yields.turns (reader_state old) yields.left none
