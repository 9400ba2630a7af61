-- What a book that tells of a journal says of partitions. `TellsStale-empty` is its start.
use Rattle.std.proofs.Common.{◌≡◌, ◌∙◌, ℕ, zero, suc, ◌≤◌, List, [], length, take, get_or, refl}
use Rattle.std.proofs.Common.{sym}
use Rattle.std.proofs.Common.{ap, inl, inr, arith}
use Rattle.std.specs.Prelude.{Bool, true, false, not, ◌&&◌, slice_get}
use Rattle.std.proofs.lemmas.Bool.{cases_Bool, eq-eqb, le-leb, leb-true}
use Rattle.std.proofs.lemmas.List.Sums.{list_all-from_AllPass}
use Rattle.std.proofs.lemmas.List.{take_all}
use Rattle.std.proofs.Math.Bool.{and-false}
use Rattle.desc_types.specs.declared.table.Key.{Key}
use Rattle.desc_types.specs.Descriptions.{DescOf}
use Rattle.view_meaning.specs.declared.journal.Entry.{Entry}
use Rattle.view_meaning.specs.Drains.{all_view_keys, unsettled}
use Rattle.view_meaning.specs.Partitions.{is_among, is_part, sources_of}
use Rattle.view_meaning.specs.Staleness.{is_settled, is_settled_within, is_stale}
use Rattle.view_meaning.specs.Versions.{is_raw, version}
use Rattle.view_meaning.proofs.KeyLemmas.{sources_of-none}
use Rattle.view_meaning.proofs.SettledLemmas.{is_settled-no_sources, is_stale-current}
use Rattle.view_meaning.proofs.SettledLemmas.{is_stale-no_sources}
use Rattle.stale_test.specs.Books.{StaleBookOf, TellsStale, changed_in, is_stale_in}
use Rattle.stale_test.specs.Books.{is_unsettled_in}
use Rattle.stale_test.proofs.ViewKeyLemmas.{is_among-filter}

-- a partition changed at the latest with the last entry
pub changed_in-le : (desc : DescOf) (journal : List Entry) (book : StaleBookOf) (key : Key)
    → TellsStale desc journal book → changed_in book key ≤ length journal
changed_in-le desc journal book key tells =
    leb-true (changed_in book key) (length journal)
    (tells.changed key (length journal) (omega arith)
    ∙ eq-eqb (version desc (take (length journal) journal) key) (version desc journal key)
    (ap (λ (all : List Entry). version desc all key)
    (take_all (length journal) journal (omega arith))))

-- what is unsettled is a partition of a view that is not settled
pub is_among-unsettled : (desc : DescOf) (journal : List Entry) (key : Key)
    → is_among (unsettled desc journal) key
    ≡ (is_among (all_view_keys desc) key && not (is_settled desc journal key))
is_among-unsettled desc journal key =
    is_among-filter (λ key. not (is_settled desc journal key)) (all_view_keys desc) key

-- the book tells of each partition whether it is settled
pub is_unsettled_in-part : (desc : DescOf) (journal : List Entry) (book : StaleBookOf) (key : Key)
    → TellsStale desc journal book → is_part desc key ≡ true
    → is_unsettled_in book key ≡ not (is_settled desc journal key)
is_unsettled_in-part desc journal book key tells part =
    tells.unsettled key
    ∙ is_among-unsettled desc journal key
    ∙ elim (cases_Bool (is_among (all_view_keys desc) key)) [
      | inl view ↦ rw view refl
      | inr other ↦ rw (
        other,
        is_settled-no_sources desc journal key (sources_of-none desc key part other),
      ) refl
    ]

-- and whether it is stale
pub is_stale_in-part : (desc : DescOf) (journal : List Entry) (book : StaleBookOf) (key : Key)
    → TellsStale desc journal book → is_part desc key ≡ true
    → is_stale_in book key ≡ is_stale desc journal key
is_stale_in-part desc journal book key tells part =
    tells.stale key
    ∙ elim (cases_Bool (is_among (all_view_keys desc) key)) [
      | inl view ↦ rw view refl
      | inr other ↦ rw (
        other,
        is_stale-no_sources desc journal key (sources_of-none desc key part other),
      ) refl
    ]

-- before the first entry no partition has changed
version-empty : (desc : DescOf) (key : Key) → version desc [] key ≡ 0
version-empty desc key = elim (cases_Bool (is_raw (slice_get desc.tables key.table))) [
  | inl raw ↦ rw raw refl
  | inr view ↦ rw view refl
]

-- so none is stale
is_stale-empty : (desc : DescOf) (key : Key) → is_stale desc [] key ≡ false
is_stale-empty desc key = is_stale-current desc [] key refl

-- and all are settled
is_settled-empty : (depth : ℕ) (desc : DescOf) (key : Key)
    → is_settled_within depth desc [] key ≡ true
is_settled-empty zero desc key = refl
is_settled-empty (suc depth) desc key =
    rw (is_stale-empty desc key)
    (list_all-from_AllPass (is_settled_within depth desc []) (sources_of desc key)
    (λ index default _. is_settled-empty depth desc (get_or (sources_of desc key) index default)))

-- a book that holds nothing tells of the empty journal
pub TellsStale-empty : (desc : DescOf) (book : StaleBookOf) → book.entries ≡ 0 → book.parts ≡ []
    → book.unsettled ≡ [] → TellsStale desc [] book
TellsStale-empty desc book entries parts unsettled = record {
  entries = entries;
  versions = λ key. rw (parts, version-empty desc key) refl;
  places = λ key. rw parts refl;
  past = λ key. omega arith;
  changed = λ key at within.
      rw (parts, le-leb 0 at (omega arith))
      (sym (eq-eqb (version desc (take at []) key) (version desc [] key)
      (ap (λ (all : List Entry). version desc all key) (take_all at [] (omega arith)))));
  stale = λ key. rw (unsettled, is_stale-empty desc key)
      (sym (and-false (is_among (all_view_keys desc) key)));
  unsettled = λ key. rw unsettled
      (sym (is_among-unsettled desc [] key
      ∙ ap (λ (settled : Bool). is_among (all_view_keys desc) key && not settled)
      (is_settled-empty (suc key.table) desc key)
      ∙ and-false (is_among (all_view_keys desc) key)));
}
