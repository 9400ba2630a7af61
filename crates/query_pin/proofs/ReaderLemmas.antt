-- Readers of versions: the first from a version on tells whether there is one of it.
use Rattle.std.proofs.Common.{◌≡◌, ◌∙◌, ℕ, List, [], ◌∷◌, take, drop, ap, sym, subst, refl, arith}
use Rattle.std.specs.Prelude.{Bool, true, false, ◌&&◌, ◌||◌, ◌==◌}
use Rattle.std.specs.BTreeMap.Range.{IsInRange}
use Rattle.std.specs.BTreeSet.{BTreeSet, IsKeyRangeOf}
use Rattle.std.specs.Ordering.{is_eq, is_gt, nat_cmp, ordering_reverse, ordering_then}
use Rattle.std.specs.declared.cmp.Ordering.{Ordering}
use Rattle.std.specs.declared.cmp.Ordering.TheVariants.{Less, Equal, Greater}
use Rattle.std.specs.declared.ops.Bound.TheVariants.{Included, Unbounded}
use Rattle.std.proofs.lemmas.Bool.{false≢true}
use Rattle.std.proofs.lemmas.Bool.{false_from_ne_true}
use Rattle.std.proofs.lemmas.Bool.Decides.{nat_tests}
use Rattle.std.proofs.lemmas.List.{take-append-drop}
use Rattle.std.proofs.lemmas.List.Folds.{list_any-append}
use Rattle.query_pin.specs.declared.input.Input.{Input}
use Rattle.query_pin.specs.declared.readers.Reader.{Reader}
use Rattle.query_pin.specs.Inputs.{input_cmp, is_read, is_version}
use Rattle.query_pin.proofs.OrderLemmas.{input_cmp-total, is_gt-first, is_version-same}
use Rattle.query_pin.specs.Readers.{TellsIfRead, has_reader, is_reader_of, reader_cmp}

-- versions compare as equal exactly if they are the same
is_eq-input_cmp : (read other : Input) → is_eq (input_cmp read other) ≡ is_version read other
is_eq-input_cmp read other = grind (arith, nat_tests)

-- what comes after another neither way is equal to it
is_eq-neither : (order : Ordering) → is_gt order ≡ false → is_gt (ordering_reverse order) ≡ false
    → is_eq order ≡ true
is_eq-neither Less upto from = sym from
is_eq-neither Equal upto from = refl
is_eq-neither Greater upto from = sym upto

-- a reader between two of one version is of that version
read-between : (first between last : Reader) → first.read ≡ last.read
    → is_gt (reader_cmp first between) ≡ false → is_gt (reader_cmp between last) ≡ false
    → is_version last.read between.read ≡ true
read-between first between last same above below =
    sym (is_eq-input_cmp last.read between.read)
    ∙ is_eq-neither (input_cmp last.read between.read) up
    (ap is_gt (sym (input_cmp-total.antisymm between.read last.read)) ∙ down)
  where
    up : is_gt (input_cmp last.read between.read) ≡ false
    up =
        subst (λ (read : Input). is_gt (input_cmp read between.read) ≡ false) same
        (is_gt-first (input_cmp first.read between.read) (nat_cmp first.id between.id) above)

    down : is_gt (input_cmp between.read last.read) ≡ false
    down =
        is_gt-first (input_cmp between.read last.read) (nat_cmp between.id last.id) below

-- the first reader that a version can have
abbrev pub first_of : Input → Reader
first_of read = record { read = read; id = 0 }

-- a reader of a version does not stand before the first that it can have
from-first_of : (read : Input) (id : ℕ)
    → IsInRange reader_cmp (Included (first_of read)) Unbounded
    (record { read = read; id = id })
from-first_of read id = (grind (arith, nat_tests), tt)

-- the first reader from there on tells whether there is one of the version
pub TellsIfRead-first : (readers : BTreeSet Reader) (read : Input) (first : Reader)
    (later : List Reader)
    → IsKeyRangeOf reader_cmp (Included (first_of read)) Unbounded readers (first ∷ later)
    → TellsIfRead readers.keys read (is_version read first.read)
TellsIfRead-first readers read first later found = record {
  some = λ same. (
    first.id,
    subst (λ (own : Input).
        has_reader readers.keys (record { read = own; id = first.id }) ≡ true)
        (is_version-same read first.read same) found.1.1,
  );
  none = λ other id. false_from_ne_true
      (has_reader readers.keys (record { read = read; id = id })) (λ has.
      false≢true (sym other ∙ read-between (first_of read) first
      (record { read = read; id = id }) refl found.1.0.0
      (found.2 (record { read = read; id = id }) (from-first_of read id) has)));
}

-- if none stands from there on, there is none of the version
pub TellsIfRead-none : (readers : BTreeSet Reader) (read : Input)
    → IsKeyRangeOf reader_cmp (Included (first_of read)) Unbounded readers []
    → TellsIfRead readers.keys read false
TellsIfRead-none readers read found = record {
  some = λ never. absurd (false≢true never);
  none = λ _ id. found.5 refl (record { read = read; id = id }) (from-first_of read id);
}

-- who reads none of some versions reads none of the first
pub is_reader_of-part : (id : ℕ) (versions : List Input) (index : ℕ) (reader : Reader)
    → is_reader_of id versions reader ≡ false
    → is_reader_of id (take index versions) reader ≡ false
is_reader_of-part id versions index reader none =
    part (is_read (take index versions) reader.read) (is_read (drop index versions) reader.read)
    (id == reader.id)
    (ap (λ (test : Bool). test && (id == reader.id)) split ∙ none)
  where
    split : (is_read (take index versions) reader.read
        || is_read (drop index versions) reader.read) ≡ is_read versions reader.read
    split =
        sym (list_any-append (is_version reader.read) (take index versions) (drop index versions))
        ∙ ap (λ (whole : List Input). is_read whole reader.read) (take-append-drop index versions)

    part : (front back own : Bool) → ((front || back) && own) ≡ false → (front && own) ≡ false
    part true back own is = is
    part false back own is = refl
