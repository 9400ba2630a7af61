-- Which entries may be added to a depot: a new delivery (`MayAdd-load`), and the rows of a claim
-- (`MayAdd-install`).
use Rattle.std.proofs.Common.{◌≡◌, ◌∙◌, ◌<◌, ◌^◌, ℕ, List, [], ◌∷◌, ◌++◌, false, length, refl}
use Rattle.std.proofs.Common.{subst, sym, take}
use Rattle.std.specs.Prelude.{All}
use Rattle.std.specs.List.{AllZip}
use Rattle.std.proofs.lemmas.List.Elements.{All-cons, All-nil}
use Rattle.depot_cell.specs.declared.cell.Cell.{Cell}
use Rattle.depot_cell.specs.Reading.{IsCellOf}
use Rattle.desc_types.specs.declared.table.Key.{Key}
use Rattle.desc_types.specs.Deliveries.{DeliveryOf}
use Rattle.desc_types.specs.Descriptions.{DescOf}
use Rattle.desc_types.proofs.ServedLemmas.{accepted-served}
use Rattle.row_codec.specs.Bodies.{IsBody}
use Rattle.row_codec.specs.Deliveries.{IsDelivery}
use Rattle.row_codec.specs.Spelling.{delivery_bytes, rows_bytes}
use Rattle.view_meaning.specs.declared.journal.Entry.{Entry}
use Rattle.view_meaning.specs.declared.journal.Entry.TheVariants as entry
use Rattle.view_meaning.specs.Contents.{latest_content}
use Rattle.view_meaning.specs.Journal.{FitsEntry, FitsJournal, is_repeat}
use Rattle.view_meaning.specs.LegalJournals.{MayInstall}
use Rattle.view_meaning.specs.Versions.{version}
use Rattle.view_meaning.proofs.FitLemmas.{FitsEntry-Install, FitsJournal-push}
use Rattle.view_meaning.proofs.LegalLemmas.{is_raw-stale}
use Rattle.depot_recovery.specs.Depots.{DepotOf, body_of, types_of}
use Rattle.depot_recovery.specs.Growth.{AreInstalledRows, MayAdd, rows_claimed}
use Rattle.depot_recovery.specs.Images.{IsDepot, IsWritable}
use Rattle.depot_recovery.proofs.ClaimedLemmas.{claims_tell_rows}
use Rattle.depot_recovery.proofs.TypedLemmas.{typed_contents}

-- a delivery that is new may be added
pub MayAdd-load : (depot : DepotOf) (delivery : DeliveryOf) → IsDelivery depot.desc delivery
    → is_repeat depot.entries delivery ≡ false → length (delivery_bytes delivery) < 2 ^ 64
    → MayAdd depot (entry.Load delivery) (delivery_bytes delivery)
MayAdd-load depot delivery is fresh short = record {
  writable = record { fits = is.fits; delivery = is; body = short };
  follows = fresh;
  content = refl;
}

-- the entries of a depot fit its description
FitsJournal-written : (desc : DescOf) (entries : List Entry) (lengths : List ℕ)
    → AllZip (IsWritable desc) entries lengths → FitsJournal desc entries
FitsJournal-written desc [] [] written = All-nil (FitsEntry desc)
FitsJournal-written desc [] (len ∷ lengths) written = absurd written
FitsJournal-written desc (next ∷ later) [] written = absurd written
FitsJournal-written desc (next ∷ later) (len ∷ lengths) written =
    All-cons (FitsEntry desc) next later written.0.fits
    (FitsJournal-written desc later lengths written.1)

-- the install of a claim fits
FitsEntry-claim : (depot : DepotOf) (key : Key) (at : ℕ)
    → MayInstall depot.desc depot.entries key at → FitsEntry depot.desc (entry.Install key at)
FitsEntry-claim depot key at may =
    FitsEntry-Install depot.desc key at may.part
    (is_raw-stale depot.desc (take at depot.entries) key may.stale)

-- the rows that its partition has then have the types of the table
AreTyped-claim : (depot : DepotOf) (key : Key) (at : ℕ) → IsDepot depot
    → MayInstall depot.desc depot.entries key at
    → All (AllZip IsCellOf (types_of depot.desc key.table))
    (latest_content depot.desc (depot.entries ++ entry.Install key at ∷ []) key)
AreTyped-claim depot key at made may =
    let journal = depot.entries ++ entry.Install key at ∷ [] in
    typed_contents depot.desc journal key (version depot.desc journal key) made.accepted
    (FitsJournal-push depot.desc depot.entries (entry.Install key at)
    (FitsJournal-written depot.desc depot.entries depot.lengths made.written)
    (FitsEntry-claim depot key at may))

-- the rows of a claim are those that its install adds, if they are not too many
AreInstalledRows-claim : (depot : DepotOf) (key : Key) (at : ℕ) (rows : List (List Cell))
    → IsDepot depot → MayInstall depot.desc depot.entries key at → length rows < 2 ^ 64
    → rows ≡ rows_claimed depot.desc depot.entries key at
    → AreInstalledRows depot key at (rows_bytes rows)
AreInstalledRows-claim depot key at rows made may few claimed =
    let served = accepted-served depot.desc made.accepted in
    let latest = claimed ∙ sym (claims_tell_rows.added depot.desc depot.entries key at
    served.earlier made.legal may) in
    record {
      rows = rows;
      spelled = refl;
      typed = record {
        few = few;
        each = subst (All (AllZip IsCellOf (types_of depot.desc key.table))) (sym latest)
            (AreTyped-claim depot key at made may);
      };
      latest = latest;
    }

-- so they may be added
pub MayAdd-install : (depot : DepotOf) (key : Key) (at : ℕ) (rows : List (List Cell))
    → IsDepot depot → MayInstall depot.desc depot.entries key at
    → IsBody (body_of (entry.Install key at) (length (rows_bytes rows)))
    → length rows < 2 ^ 64 → rows ≡ rows_claimed depot.desc depot.entries key at
    → MayAdd depot (entry.Install key at) (rows_bytes rows)
MayAdd-install depot key at rows made may short few claimed = record {
  writable = record { fits = FitsEntry-claim depot key at may; delivery = tt; body = short };
  follows = may;
  content = AreInstalledRows-claim depot key at rows made may few claimed;
}
