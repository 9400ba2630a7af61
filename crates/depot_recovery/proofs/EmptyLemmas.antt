-- A depot without entries: `empty_depots_are_sound` and `depots_come_whole`.
use Rattle.std.proofs.Common.{◌≡◌, ℕ, List, [], ◌∷◌, Some, inl, inr, refl, subst, sym}
use Rattle.std.specs.Prelude.{IsSome, None, Option}
use Rattle.std.proofs.lemmas.Option.{none-some}
use Rattle.depot_disk.specs.Image.{Image}
use Rattle.catalog_journal.specs.Catalog.{MARK_FILE}
use Rattle.catalog_journal.specs.Moments.{HasBodies}
use Rattle.desc_types.specs.Accepted.{IsAccepted}
use Rattle.desc_types.specs.Descriptions.{DescOf}
use Rattle.view_meaning.specs.declared.journal.Entry.TheVariants as entry
use Rattle.depot_recovery.specs.Depots.{first_body}
use Rattle.depot_recovery.specs.Growth.{DepotsComeWhole, EmptyDepotsAreSound, MayBeMade}

pub empty_depots_are_sound : EmptyDepotsAreSound
empty_depots_are_sound desc image accepted mark catalog = record {
  made = record { accepted = accepted; written = tt; legal = tt };
  mark = mark;
  catalog = catalog;
  loads = λ place delivery there. absurd (none-some (entry.Load delivery) there);
  latest = λ place key at there last. absurd (none-some (entry.Install key at) there);
}

-- an image with that catalogue holds the depot exactly if its mark file is there
MayBeMade-mark : (desc : DescOf) (image : Image) (found : Option (List ℕ))
    → IsAccepted desc → HasBodies (first_body desc ∷ []) image → image MARK_FILE ≡ found
    → MayBeMade desc image
MayBeMade-mark desc image None accepted catalog none = inl none
MayBeMade-mark desc image (Some bytes) accepted catalog there =
    inr (empty_depots_are_sound desc image accepted
    (subst (λ (found : Option (List ℕ)). IsSome found) (sym there) refl) catalog)

pub depots_come_whole : DepotsComeWhole
depots_come_whole desc image accepted (inl unmarked) = inl unmarked
depots_come_whole desc image accepted (inr catalog) =
    MayBeMade-mark desc image (image MARK_FILE) accepted catalog refl
