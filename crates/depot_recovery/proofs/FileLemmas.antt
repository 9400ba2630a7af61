-- The files of a sound image are fine: that of each latest install is read as its rows.
use Rattle.std.proofs.Common.{◌≡◌, ◌∙◌, true, ℕ, suc, List, [], ◌∷◌, Ok, ap, inl, inr, refl}
use Rattle.std.proofs.Common.{sym}
use Rattle.std.specs.Prelude.{⊤}
use Rattle.std.proofs.lemmas.Bool.{cases_Bool}
use Rattle.depot_disk.specs.Image.{Image}
use Rattle.desc_types.specs.declared.table.Key.{Key}
use Rattle.desc_types.specs.Descriptions.{DescOf}
use Rattle.row_codec.specs.Laws.{AreRowsOf}
use Rattle.row_codec.specs.Spelling.{rows_bytes}
use Rattle.version_store.specs.Laws.{FilesAreReadAgain}
use Rattle.version_store.specs.Reading.{rows_in}
use Rattle.view_meaning.specs.declared.journal.Entry.{Entry}
use Rattle.view_meaning.specs.declared.journal.Entry.TheVariants as entry
use Rattle.view_meaning.specs.Contents.{latest_content}
use Rattle.depot_recovery.specs.Depots.{is_latest, types_of}
use Rattle.depot_recovery.specs.Found.{check_file, check_files}
use Rattle.depot_recovery.proofs.HeldLemmas.{AllNumbered, HoldsContent}

-- the file of this number begins with the rows of the latest version of a partition, of this length
pub record HoldsRows (desc : DescOf) (image : Image) (journal : List Entry) (number : ℕ) (key : Key)
    (len : ℕ) : Type 0 where
  pub typed : AreRowsOf (types_of desc key.table) (latest_content desc journal key)
  pub content : HoldsContent image number (rows_bytes (latest_content desc journal key)) len

-- of an install: it does if it is the latest one
abbrev pub HoldsInstall : DescOf → Image → (journal : List Entry) → (number : ℕ) → Entry
    → (len : ℕ) → Type 0
HoldsInstall desc image journal number (entry.Load delivery) len = ⊤
HoldsInstall desc image journal number (entry.Install key at) len =
    is_latest journal number key ≡ true → HoldsRows desc image journal number key len

module _ (files : FilesAreReadAgain) (desc : DescOf) (image : Image) (journal : List Entry) where
  -- the rows in the file of a latest install
  rows_in-held : (number : ℕ) (key : Key) (len : ℕ) → HoldsRows desc image journal number key len
      → rows_in image (types_of desc key.table) number len ≡ Ok (latest_content desc journal key)
  rows_in-held number key len holds =
      ap (λ (size : ℕ). rows_in image (types_of desc key.table) number size)
      (sym holds.content.stated)
      ∙ files.rows image (types_of desc key.table) number (latest_content desc journal key)
      holds.typed holds.content.front

  -- the file of an entry
  check_file-held : (number len : ℕ) (next : Entry)
      → HoldsInstall desc image journal number next len
      → check_file desc image journal number len next ≡ Ok tt
  check_file-held number len (entry.Load delivery) holds = refl
  check_file-held number len (entry.Install key at) holds =
      elim (cases_Bool (is_latest journal number key)) [
        | inl latest ↦ rw (latest, rows_in-held number key len (holds latest)) refl
        | inr older ↦ rw older refl
      ]

  -- the files of some entries
  pub check_files-held : (number : ℕ) (entries : List Entry) (lengths : List ℕ)
      → AllNumbered (HoldsInstall desc image journal) number entries lengths
      → check_files desc image journal number entries lengths ≡ Ok tt
  check_files-held number [] lengths holds = refl
  check_files-held number (next ∷ later) [] holds = refl
  check_files-held number (next ∷ later) (len ∷ lengths) holds =
      rw (check_file-held number len next holds.0)
      (check_files-held (suc number) later lengths holds.1)
