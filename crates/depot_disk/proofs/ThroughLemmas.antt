-- A write and a sync, one after the other.
use Rattle.std.proofs.Common.{◌≡◌, ℕ, List, refl, sym, ◌∙◌, subst}
use Rattle.std.specs.Prelude.{None, Some, OnOk, IfSome, IsSome, Result, Ok, Err, option_map}
use Rattle.std.specs.declared.option.Option.{Option}
use Rattle.depot_disk.specs.Image.{Image, bytes_in, overwritten, written}
use Rattle.depot_disk.specs.Torn.{Torn}
use Rattle.depot_disk.specs.State.{DiskState, Elapses, Fixed, IsDiskState, LeavesOnly}
use Rattle.depot_disk.specs.State.{Stepped, Within}
use Rattle.depot_disk.proofs.TornLemmas.{Torn-same, with_file-same}
use Rattle.depot_disk.proofs.RunLemmas.{LeavesOnly-both, LeavesOnly-call}

-- what holds in any case holds after an Ok
pub OnOk-always : {T E : Type 0} (result : Result T E) (P : Type 0) → P → OnOk result P
OnOk-always (Ok _) P holds = holds
OnOk-always (Err _) P holds = tt

-- what is synced after a write is what was written
pub durable-written : {T E : Type 0} (result : Result T E) (file at : ℕ) (bytes : List ℕ)
    (old mid : Option Image) (leaves : Image → Type 0)
    → mid ≡ option_map (written file at bytes) old
    → OnOk result (IfSome mid (λ image. Fixed file image leaves))
    → OnOk result (IfSome old (λ image. (left : Image) → leaves left
    → left file ≡ Some (overwritten (bytes_in image file) at bytes)))
durable-written (Err _) file at bytes old mid leaves is fixed = tt
durable-written (Ok _) file at bytes None mid leaves is fixed = tt
durable-written (Ok _) file at bytes (Some image) mid leaves is fixed =
    let now = written file at bytes image in
    let whole = Some (overwritten (bytes_in image file) at bytes) in
    let same : now file ≡ whole = with_file-same image file whole in
    let stays : Fixed file now leaves =
    subst (λ (held : Option Image). IfSome held (λ other. Fixed file other leaves)) is fixed in
    λ left may. stays (subst (λ (content : Option (List ℕ)). IsSome content) (sym same) refl) left may
    ∙ same

-- at each moment of the two the write is torn at most
pub LeavesOnly-through : (old mid new : DiskState) (file at count : ℕ)
    → IsDiskState old → IsDiskState mid → Elapses old mid → Elapses mid new
    → Within mid.may_leave (Stepped (Torn file at count) old.may_leave)
    → Within new.may_leave mid.may_leave
    → LeavesOnly old new (Stepped (Torn file at count) old.may_leave)
LeavesOnly-through old mid new file at count first second wrote synced torn fewer =
    let kind = Stepped (Torn file at count) old.may_leave in
    let was : Within old.may_leave kind = λ image left. (image, left, Torn-same file at count image) in
    LeavesOnly-both old mid new kind
    (LeavesOnly-call old mid kind first wrote was torn)
    (LeavesOnly-call mid new kind second synced torn (λ image left. torn image (fewer image left)))
