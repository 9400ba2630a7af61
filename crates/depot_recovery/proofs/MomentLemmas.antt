-- What a stop leaves in the calls that add an entry. While no file changes that is needed, it
-- leaves the depot (`LeavesOnly-needed`, `LeavesOnly-other`), and so it does afterwards
-- (`AllSound-left`). While the catalogue gains the body of an entry
-- whose content is stored, it leaves the depot without the entry or with it (`LeavesOnly-adding`),
-- and afterwards with it (`AllSound-added`). All of it together is one run (`LeavesOnly-whole`).
-- While a depot is made, it leaves none or the empty one (`LeavesOnly-making`), and afterwards
-- that one (`AllSound-made`).
use Rattle.std.proofs.Common.{◌++◌, ◌∷◌, ℕ, List, [], arith, inl, inr, subst, sym}
use Rattle.depot_disk.specs.Image.{Image, SameElsewhere}
use Rattle.depot_disk.specs.State.{DiskState, IsDiskState, LeavesOnly, Stepped, Within}
use Rattle.depot_disk.proofs.RunLemmas.{LeavesOnly-both, LeavesOnly-wider}
use Rattle.catalog_journal.specs.Moments.{HasBeforeOrAfter, HasBodies, HasNow, IsMade}
use Rattle.catalog_journal.specs.Moments.{IsUnmadeOrMade}
use Rattle.desc_types.specs.Accepted.{IsAccepted}
use Rattle.desc_types.specs.Descriptions.{DescOf}
use Rattle.view_meaning.specs.declared.journal.Entry.{Entry}
use Rattle.depot_recovery.specs.Depots.{DepotOf, bodies_of, empty_depot, first_body}
use Rattle.depot_recovery.specs.Growth.{AreReadyFor, GainsEntry, MayBeMade, MayHold, body_with}
use Rattle.depot_recovery.specs.Growth.{depot_with, next_file}
use Rattle.depot_recovery.specs.Images.{AllSound, IsNeeded, IsSoundAs}
use Rattle.depot_recovery.specs.Sweeping.{SameIfNeeded}
use Rattle.depot_recovery.proofs.BodiesLemmas.{bodies_grow}
use Rattle.depot_recovery.proofs.EmptyLemmas.{depots_come_whole, empty_depots_are_sound}
use Rattle.depot_recovery.proofs.GrowthLemmas.{depots_grow}
use Rattle.depot_recovery.proofs.NeededLemmas.{HoldsFront-same, only_bodies_count}
use Rattle.depot_recovery.proofs.NeededLemmas.{only_needed_files_count}

-- while no file changes that is needed, a stop leaves the depot
pub LeavesOnly-needed : (depot : DepotOf) (old new : DiskState) → AllSound depot old.may_leave
    → LeavesOnly old new (Stepped (SameIfNeeded depot.entries) old.may_leave)
    → LeavesOnly old new (IsSoundAs depot)
LeavesOnly-needed depot old new sound =
    LeavesOnly-wider old new (Stepped (SameIfNeeded depot.entries) old.may_leave)
    (IsSoundAs depot)
    (λ image step.
    only_needed_files_count.needed depot step.0 image step.2 (sound step.0 step.1))

-- so it does while one file changes that is not needed
pub LeavesOnly-other : (depot : DepotOf) (file : ℕ) (old new : DiskState)
    → (IsNeeded depot.entries file → ⊥) → AllSound depot old.may_leave
    → LeavesOnly old new (Stepped (SameElsewhere file) old.may_leave)
    → LeavesOnly old new (IsSoundAs depot)
LeavesOnly-other depot file old new free sound =
    LeavesOnly-wider old new (Stepped (SameElsewhere file) old.may_leave) (IsSoundAs depot)
    (λ image step.
    only_needed_files_count.other depot file step.0 image free step.2 (sound step.0 step.1))

-- and afterwards
pub AllSound-left : (depot : DepotOf) (old new : DiskState) → IsDiskState new
    → LeavesOnly old new (IsSoundAs depot) → AllSound depot new.may_leave
AllSound-left depot old new told run image left =
    run.each image (told.counts_now old.moment image run.later left)

-- after the body of an entry was added, an image holds the depot with the entry
IsSoundAs-now : (depot : DepotOf) (next : Entry) (bytes : List ℕ) (images : Image → Type 0)
    → AreReadyFor depot next bytes images
    → Within (HasNow images (bodies_of depot ++ body_with next bytes ∷ []))
    (IsSoundAs (depot_with depot next bytes))
IsSoundAs-now depot next bytes images ready image now =
    let from = now.others.0 in
    let sound = ready.sound from now.others.1 in
    let gains : GainsEntry depot next bytes from image = record {
      catalog = subst (λ (bodies : List (List ℕ)). HasBodies bodies image)
          (sym (bodies_grow depot next bytes sound.made)) now.catalog;
      file = HoldsFront-same (next_file depot) bytes from image
          (now.others.2 (next_file depot) (λ same. omega (arith, same)))
          (ready.stored from now.others.1);
      others = λ other apart _. now.others.2 other apart;
    } in
    depots_grow depot next bytes from image ready.may gains sound

-- while that body is added, it holds the depot without the entry or with it
MayHold-during : (depot : DepotOf) (next : Entry) (bytes : List ℕ) (images : Image → Type 0)
    → AreReadyFor depot next bytes images
    → Within (HasBeforeOrAfter images (bodies_of depot) (body_with next bytes))
    (MayHold depot next bytes)
MayHold-during depot next bytes images ready image (inl before) =
    inl (only_bodies_count depot before.others.0 image before.catalog before.others.2
    (ready.sound before.others.0 before.others.1))
MayHold-during depot next bytes images ready image (inr now) =
    inr (IsSoundAs-now depot next bytes images ready image now)

-- so a stop leaves that
pub LeavesOnly-adding : (depot : DepotOf) (next : Entry) (bytes : List ℕ) (old new : DiskState)
    → AreReadyFor depot next bytes old.may_leave
    → LeavesOnly old new
    (HasBeforeOrAfter old.may_leave (bodies_of depot) (body_with next bytes))
    → LeavesOnly old new (MayHold depot next bytes)
LeavesOnly-adding depot next bytes old new ready =
    LeavesOnly-wider old new
    (HasBeforeOrAfter old.may_leave (bodies_of depot) (body_with next bytes))
    (MayHold depot next bytes) (MayHold-during depot next bytes old.may_leave ready)

-- and afterwards the depot with the entry
pub AllSound-added : (depot : DepotOf) (next : Entry) (bytes : List ℕ) (old new : DiskState)
    → AreReadyFor depot next bytes old.may_leave
    → Within new.may_leave
    (HasNow old.may_leave (bodies_of depot ++ body_with next bytes ∷ []))
    → AllSound (depot_with depot next bytes) new.may_leave
AllSound-added depot next bytes old new ready now image left =
    IsSoundAs-now depot next bytes old.may_leave ready image (now image left)

-- the content is put into its file, and then the body is added
pub LeavesOnly-whole : (depot : DepotOf) (next : Entry) (bytes : List ℕ)
    (old mid new : DiskState) → LeavesOnly old mid (IsSoundAs depot)
    → LeavesOnly mid new (MayHold depot next bytes)
    → LeavesOnly old new (MayHold depot next bytes)
LeavesOnly-whole depot next bytes old mid new put =
    LeavesOnly-both old mid new (MayHold depot next bytes)
    (LeavesOnly-wider old mid (IsSoundAs depot) (MayHold depot next bytes)
    (λ image sound. inl sound) put)

-- while the catalogue of a depot is made, a stop leaves none or the one without entries
pub LeavesOnly-making : (desc : DescOf) (old new : DiskState) → IsAccepted desc
    → LeavesOnly old new (IsUnmadeOrMade old.may_leave (first_body desc))
    → LeavesOnly old new (MayBeMade desc)
LeavesOnly-making desc old new accepted =
    LeavesOnly-wider old new (IsUnmadeOrMade old.may_leave (first_body desc)) (MayBeMade desc)
    (λ image made. depots_come_whole desc image accepted made.either)

-- and afterwards that one
pub AllSound-made : (desc : DescOf) (old new : DiskState) → IsAccepted desc
    → Within new.may_leave (IsMade old.may_leave (first_body desc))
    → AllSound (empty_depot desc) new.may_leave
AllSound-made desc old new accepted made image left =
    let is = made image left in
    empty_depots_are_sound desc image accepted is.mark is.catalog
