-- The journal that was written is read from its bodies, one entry after the other.
use Rattle.std.proofs.Common.{◌≡◌, ◌+◌, ◌++◌, ◌∙◌, ℕ, suc, List, [], ◌∷◌, Ok, ap, append-nil, arith}
use Rattle.std.proofs.Common.{append_assoc, length, subst, sym}
use Rattle.std.specs.List.{AllZip}
use Rattle.std.proofs.lemmas.List.{length_push}
use Rattle.depot_disk.specs.Image.{Image}
use Rattle.desc_types.specs.Accepted.{IsAccepted}
use Rattle.desc_types.specs.Descriptions.{DescOf}
use Rattle.row_codec.specs.Bodies.{body_bytes}
use Rattle.version_store.specs.Laws.{FilesAreReadAgain}
use Rattle.view_meaning.specs.declared.journal.Entry.{Entry}
use Rattle.view_meaning.specs.LegalJournals.{MayAllFollow}
use Rattle.depot_recovery.specs.Depots.{body_of, entry_bodies}
use Rattle.depot_recovery.specs.Found.{entries_from}
use Rattle.depot_recovery.specs.Images.{IsWritable}
use Rattle.depot_recovery.proofs.EntryLemmas.{HoldsLoad, next_entry-written}
use Rattle.depot_recovery.proofs.HeldLemmas.{AllNumbered}

-- the loads after one entry more, by its journal's length
HoldsLoad-push : (image : Image) (past : List Entry) (next : Entry) (later : List Entry)
    (lengths : List ℕ) → AllNumbered (HoldsLoad image) (suc (suc (length past))) later lengths
    → AllNumbered (HoldsLoad image) (suc (length (past ++ next ∷ []))) later lengths
HoldsLoad-push image past next later lengths holds =
    subst (λ (number : ℕ). AllNumbered (HoldsLoad image) number later lengths)
    (omega (arith, length_push past next)) holds

-- after a journal, the entries that may follow it one by one
pub entries_from-written : FilesAreReadAgain → (desc : DescOf) (image : Image) → IsAccepted desc
    → (past rest : List Entry) (lengths : List ℕ) (gate : ℕ)
    → AllZip (IsWritable desc) rest lengths
    → AllNumbered (HoldsLoad image) (suc (length past)) rest lengths → MayAllFollow desc past rest
    → entries_from desc image past gate (entry_bodies rest lengths) ≡ Ok (past ++ rest)
entries_from-written files desc image accepted past [] [] gate written holds may =
    ap (λ (entries : List Entry). Ok entries) (sym (append-nil past))
entries_from-written files desc image accepted past (next ∷ later) (len ∷ lengths) gate written
    holds may =
    rw (next_entry-written files desc image accepted past gate len next written.0 holds.0 may.0)
    (entries_from-written files desc image accepted (past ++ next ∷ []) later lengths
    (gate + (5 + length (body_bytes (body_of next len)))) written.1
    (HoldsLoad-push image past next later lengths holds.1) may.1
    ∙ ap (λ (entries : List Entry). Ok entries) (append_assoc past (next ∷ []) later))
entries_from-written files desc image accepted past _ _ gate written holds may = absurd written
