-- An image that gains an entry holds the depot with it: `depots_grow`.
use Rattle.std.proofs.Common.{◌≡◌, ◌∙◌, ◌<◌, ◌++◌, ◌∷◌, ℕ, suc, List, [], Some, ap, arith}
use Rattle.std.proofs.Common.{length, refl, subst, sym, true}
use Rattle.std.specs.Prelude.{IsSome, Option, slice_get}
use Rattle.std.proofs.lemmas.List.{get_or_push, length_push}
use Rattle.std.proofs.lemmas.Option.{slice_get_read, slice_get_within}
use Rattle.std.proofs.lemmas.Slice.Zip.{all_zipped_more}
use Rattle.depot_cell.specs.declared.cell.Cell.{Cell}
use Rattle.desc_types.specs.declared.table.Key.{Key}
use Rattle.desc_types.specs.Deliveries.{DeliveryOf}
use Rattle.desc_types.proofs.ListLemmas.{each_place-push, slice_get-push}
use Rattle.depot_disk.specs.Image.{Image}
use Rattle.catalog_journal.specs.Catalog.{MARK_FILE}
use Rattle.row_codec.specs.Laws.{AreRowsOf}
use Rattle.row_codec.specs.Spelling.{delivery_bytes, rows_bytes}
use Rattle.view_meaning.specs.declared.journal.Entry.{Entry}
use Rattle.view_meaning.specs.declared.journal.Entry.TheVariants as entry
use Rattle.view_meaning.specs.Contents.{latest_content}
use Rattle.view_meaning.proofs.LegalLemmas.{IsLegal-push}
use Rattle.depot_recovery.specs.Depots.{DepotOf, is_latest, types_of}
use Rattle.depot_recovery.specs.Growth.{AreInstalledRows, DepotsGrow, GainsEntry, IsContentOf}
use Rattle.depot_recovery.specs.Growth.{MayAdd, depot_with}
use Rattle.depot_recovery.specs.Images.{HasLatest, HasLatestRows, HasLoads, IsDepot, IsSoundAs}
use Rattle.depot_recovery.specs.Images.{IsStored, IsWritable}
use Rattle.depot_recovery.proofs.BodiesLemmas.{lengths-same, next_file-few}
use Rattle.depot_recovery.proofs.LaterLemmas.{StaysLatest, is_latest-push, is_raw-install}
use Rattle.depot_recovery.proofs.LaterLemmas.{latest_content-push}
use Rattle.depot_recovery.proofs.NeededLemmas.{HoldsFront-same, MARK_FILE-apart}

-- a depot with an entry that may come next may lie on a disk
IsDepot-push : (depot : DepotOf) (next : Entry) (bytes : List ℕ) → MayAdd depot next bytes
    → IsDepot depot → IsDepot (depot_with depot next bytes)
IsDepot-push depot next bytes may made = record {
  accepted = made.accepted;
  written = all_zipped_more (IsWritable depot.desc) depot.entries depot.lengths next
      (length bytes)
      made.written may.writable;
  legal = IsLegal-push depot.desc depot.entries next made.legal may.follows;
}

-- an image that gains an entry
module _ (depot : DepotOf) (next : Entry) (bytes : List ℕ) (old new : Image)
    (may : MayAdd depot next bytes) (gains : GainsEntry depot next bytes old new)
    (sound : IsSoundAs depot old) where
  abbrev grown : DepotOf
  grown = depot_with depot next bytes

  made-grown : IsDepot grown
  made-grown = IsDepot-push depot next bytes may sound.made

  -- the contents of the entries before it are stored still
  stored-before : (place : ℕ) (content : List ℕ) → place < length depot.entries
      → IsStored depot.lengths old place content → IsStored grown.lengths new place content
  stored-before place content before stored = record {
    stated = slice_get-push depot.lengths (length bytes) place
        (omega (arith, before, lengths-same depot sound.made))
        ∙ stored.stated;
    file = HoldsFront-same (suc place) content old new
        (gains.others (suc place) (λ same. omega (arith, same))
        (λ same. omega (arith, before, same)))
        stored.file;
  }

  -- and its own is
  stored-last : IsStored grown.lengths new (length depot.entries) bytes
  stored-last =
      let same = lengths-same depot sound.made in
      record {
        stated = slice_get_read grown.lengths (length grown.lengths) (length depot.entries)
            (length bytes) refl
            (omega (arith, same, length_push depot.lengths (length bytes)))
            (sym (get_or_push depot.lengths (length bytes) (length bytes) (length depot.entries)
            (sym same)));
        file = gains.file;
      }

  -- the entry at a place has its delivery in its file, if it is a load
  abbrev HasLoad : (place : ℕ) → Entry → Type 0
  HasLoad place found = (delivery : DeliveryOf) → found ≡ entry.Load delivery
      → IsStored grown.lengths new place (delivery_bytes delivery)

  load-before : (place : ℕ) (found : Entry) → slice_get depot.entries place ≡ Some found
      → HasLoad place found
  load-before place found there delivery same =
      stored-before place (delivery_bytes delivery)
      (slice_get_within depot.entries place found there)
      (sound.loads place delivery (there ∙ ap Some same))

  load-last : HasLoad (length depot.entries) next
  load-last delivery same =
      subst (IsStored grown.lengths new (length depot.entries))
      (subst (λ (found : Entry). IsContentOf depot found bytes) same may.content) stored-last

  loads-grown : HasLoads grown new
  loads-grown place delivery there =
      each_place-push HasLoad depot.entries next load-before load-last place
      (entry.Load delivery) there delivery refl

  -- the entry at a place has its rows in its file, if it is the latest install of its partition
  abbrev HasRows : (place : ℕ) → Entry → Type 0
  HasRows place found = (key : Key) (at : ℕ) → found ≡ entry.Install key at
      → is_latest grown.entries (suc place) key ≡ true → HasLatestRows grown new place key

  -- that is so before the entry, if the partition has the same rows after it
  rows-kept : (place : ℕ) (key : Key) → place < length depot.entries
      → latest_content depot.desc grown.entries key
      ≡ latest_content depot.desc depot.entries key
      → HasLatestRows depot old place key → HasLatestRows grown new place key
  rows-kept place key before rows has = record {
    typed = subst (AreRowsOf (types_of depot.desc key.table)) (sym rows) has.typed;
    stored = subst
        (λ (rows : List (List Cell)). IsStored grown.lengths new place (rows_bytes rows))
        (sym rows)
        (stored-before place (rows_bytes (latest_content depot.desc depot.entries key)) before
        has.stored);
  }

  rows-before : (place : ℕ) (found : Entry) → slice_get depot.entries place ≡ Some found
      → HasRows place found
  rows-before place found there key at same last =
      let here : slice_get depot.entries place ≡ Some (entry.Install key at) =
      there ∙ ap Some same in
      let before = slice_get_within depot.entries place (entry.Install key at) here in
      let stays : StaysLatest depot.entries next (suc place) key =
      is_latest-push depot.entries next (suc place) key before last in
      rows-kept place key before
      (latest_content-push depot.desc depot.entries next key made-grown.legal
      (is_raw-install depot place key at sound.made here) stays.other)
      (sound.latest place key at here stays.was)

  rows-last : HasRows (length depot.entries) next
  rows-last key at same last =
      let added : AreInstalledRows depot key at bytes =
      subst (λ (found : Entry). IsContentOf depot found bytes) same may.content in
      let rows : added.rows ≡ latest_content depot.desc grown.entries key =
      added.latest ∙ ap (λ (found : Entry).
      latest_content depot.desc (depot.entries ++ found ∷ []) key) (sym same) in
      record {
        typed = subst (AreRowsOf (types_of depot.desc key.table)) rows added.typed;
        stored = subst (IsStored grown.lengths new (length depot.entries))
            (added.spelled ∙ ap rows_bytes rows) stored-last;
      }

  latest-grown : HasLatest grown new
  latest-grown place key at there last =
      each_place-push HasRows depot.entries next rows-before rows-last place
      (entry.Install key at) there key at refl last

  -- the mark file is that of no entry
  mark-grown : IsSome (new MARK_FILE)
  mark-grown =
      let few = next_file-few depot next bytes new made-grown gains.catalog in
      subst (λ (found : Option (List ℕ)). IsSome found)
      (sym (gains.others MARK_FILE MARK_FILE-apart (λ same. omega (arith, few, same)))) sound.mark

  IsSoundAs-grown : IsSoundAs grown new
  IsSoundAs-grown = record {
    made = made-grown;
    mark = mark-grown;
    catalog = gains.catalog;
    loads = loads-grown;
    latest = latest-grown;
  }

pub depots_grow : DepotsGrow
depots_grow = IsSoundAs-grown
