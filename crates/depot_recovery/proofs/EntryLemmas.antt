-- Entries that were written are read: from the body of each, and of a load from its file.
use Rattle.std.proofs.Common.{◌≡◌, ◌∙◌, ℕ, suc, List, Ok, ap, length, refl, sym}
use Rattle.std.specs.Prelude.{⊤}
use Rattle.depot_disk.specs.Image.{Image}
use Rattle.desc_types.specs.Accepted.{IsAccepted}
use Rattle.desc_types.specs.Deliveries.{DeliveryOf}
use Rattle.desc_types.specs.Descriptions.{DescOf}
use Rattle.row_codec.specs.Bodies.{body_bytes}
use Rattle.row_codec.specs.Deliveries.{IsDelivery, read_delivery}
use Rattle.row_codec.specs.Spelling.{delivery_bytes}
use Rattle.row_codec.proofs.BodyLemmas.{bodies_law}
use Rattle.row_codec.proofs.DeliveryLemmas.{deliveries_law}
use Rattle.version_store.specs.Laws.{FilesAreReadAgain}
use Rattle.version_store.specs.Reading.{front_of, read_as}
use Rattle.view_meaning.specs.declared.journal.Entry.{Entry}
use Rattle.view_meaning.specs.declared.journal.Entry.TheVariants as entry
use Rattle.view_meaning.specs.LegalJournals.{MayFollow}
use Rattle.depot_recovery.specs.Depots.{body_of}
use Rattle.depot_recovery.specs.Found.{entry_in, is_view_part, next_entry}
use Rattle.depot_recovery.specs.Images.{IsWritable}
use Rattle.depot_recovery.proofs.DescLemmas.{checked-passed}
use Rattle.depot_recovery.proofs.FollowLemmas.{may_follow-MayFollow}
use Rattle.depot_recovery.proofs.HeldLemmas.{HoldsContent}
use Rattle.depot_recovery.proofs.ViewPartLemmas.{is_view_part-FitsEntry}

-- of a load: the file with its number begins with its delivery, which has this length
abbrev pub HoldsLoad : Image → (number : ℕ) → Entry → (len : ℕ) → Type 0
HoldsLoad image number (entry.Load delivery) len =
    HoldsContent image number (delivery_bytes delivery) len
HoldsLoad image number (entry.Install key at) len = ⊤

module _ (files : FilesAreReadAgain) (desc : DescOf) (image : Image)
    (accepted : IsAccepted desc) where
  -- the delivery in the file of a load
  delivery-held : (number len : ℕ) (delivery : DeliveryOf) → IsDelivery desc delivery
      → HoldsLoad image number (entry.Load delivery) len
      → read_as (read_delivery desc) (front_of image number len) ≡ Ok delivery
  delivery-held number len delivery is holds =
      ap (λ (size : ℕ). read_as (read_delivery desc) (front_of image number size))
      (sym holds.stated)
      ∙ ap (read_as (read_delivery desc))
      (files.again image number (delivery_bytes delivery) holds.front)
      ∙ (deliveries_law desc accepted).again delivery is

  -- the entry of a body that was made of it
  entry_in-written : (number gate len : ℕ) (next : Entry) → IsWritable desc next len
      → HoldsLoad image number next len
      → entry_in desc image number gate (body_of next len) ≡ Ok next
  entry_in-written number gate len (entry.Load delivery) written holds =
      rw (delivery-held number len delivery written.delivery holds) refl
  entry_in-written number gate len (entry.Install key at) written holds =
      checked-passed gate (is_view_part desc key) (entry.Install key at)
      (is_view_part-FitsEntry desc key at accepted written.fits)

  -- the entry of a record, after a journal that it may follow
  pub next_entry-written : (journal : List Entry) (gate len : ℕ) (next : Entry)
      → IsWritable desc next len → HoldsLoad image (suc (length journal)) next len
      → MayFollow desc journal next
      → next_entry desc image journal gate (body_bytes (body_of next len)) ≡ Ok next
  next_entry-written journal gate len next written holds may =
      rw (
        bodies_law.again (body_of next len) written.body,
        entry_in-written (suc (length journal)) gate len next written holds,
        may_follow-MayFollow desc journal next may,
      ) refl
