-- An append as two writes that stay: what a stop leaves at each moment, and after the second.
use Rattle.std.proofs.Common.{◌≡◌, ℕ, ◌+◌, ◌<◌, List, [], ◌∷◌, ◌++◌, length, refl, sym, ◌∙◌, ap, subst, arith}
use Rattle.std.specs.Prelude.{None, Some, IfSome, IsSome, option_map}
use Rattle.std.specs.declared.option.Option.{Option}
use mathlib.Core.Logic.{inl}
use Rattle.depot_disk.specs.Image.{Image, bytes_in, overwritten, written}
use Rattle.depot_disk.specs.Torn.{Torn}
use Rattle.depot_disk.specs.State.{DiskState, LeavesOnly, Stepped, Within}
use Rattle.depot_disk.proofs.RunLemmas.{LeavesOnly-both, LeavesOnly-wider}
use Rattle.catalog_journal.specs.declared.log.Log.{Log}
use Rattle.catalog_journal.specs.Catalog.{IsCatalog, MOST_RECORDS}
use Rattle.catalog_journal.specs.Logs.{IsFramed, framed_body}
use Rattle.catalog_journal.specs.Moments.{HasBeforeOrAfter, HasBodies, HasNow, HoldsLog}
use Rattle.catalog_journal.proofs.ThroughLemmas.{IsOver-through, IsThrough, IsThrough-torn}
use Rattle.catalog_journal.proofs.ThroughLemmas.{bytes_in-written}
use Rattle.catalog_journal.proofs.AppendLemmas.{HasNow-staging, IsCatalog-appended, IsLogOf-next}
use Rattle.catalog_journal.proofs.AppendLemmas.{IsNext, IsNext-framed, IsStaged}
use Rattle.catalog_journal.proofs.AppendLemmas.{IsStaged-opened, IsStaged-opening, IsStaged-written}

-- after both writes the disk holds the catalogue of the longer log
pub HoldsLog-appended : (log : Log) (inside bytes : List ℕ) (len : ℕ) (held mid now : Option Image)
    → IsFramed inside → bytes ≡ inside → len ≡ length bytes → log.count < MOST_RECORDS
    → IfSome held (HoldsLog log) → mid ≡ option_map (written 0 (log.end + 1) bytes) held
    → now ≡ option_map (written 0 log.end (1 ∷ [])) mid
    → IfSome now (HoldsLog (record { end = log.end + len; count = log.count + 1 }))
HoldsLog-appended log inside bytes len held mid now framed value all room has first second =
    subst (λ (o : Option Image). IfSome o (HoldsLog after))
    (sym (second ∙ ap (λ (o : Option Image). option_map (written 0 log.end (1 ∷ [])) o) first))
    (known held has)
  where
    after : Log
    after = record { end = log.end + len; count = log.count + 1 }

    known : (held : Option Image) → IfSome held (HoldsLog log)
        → IfSome (option_map (written 0 log.end (1 ∷ []))
        (option_map (written 0 (log.end + 1) bytes) held)) (HoldsLog after)
    known None has = tt
    known (Some image) has =
        let bodies : List (List ℕ) = has.0 in
        let body : List ℕ = framed_body inside in
        let mid : Image = written 0 (log.end + 1) bytes image in
        let next : IsNext log bodies body bytes =
        IsNext-framed log bodies body inside bytes has.1 framed refl value room in
        let same : bytes_in (written 0 log.end (1 ∷ []) mid) 0
        ≡ overwritten (overwritten (bytes_in image 0) (log.end + 1) bytes) log.end (1 ∷ []) =
        bytes_in-written 0 log.end (1 ∷ []) mid
        ∙ ap (λ (l : List ℕ). overwritten l log.end (1 ∷ [])) (bytes_in-written 0 (log.end + 1) bytes image) in (
          bodies ++ body ∷ [],
          IsLogOf-next log bodies body bytes len next all,
          subst (λ (l : List ℕ). IsCatalog l (bodies ++ body ∷ [])) (sym same)
              (IsCatalog-appended log bodies body bytes (bytes_in image 0) next has.2),
        )

module _ (old : DiskState) (log : Log) (bodies : List (List ℕ)) (body bytes : List ℕ)
    (next : IsNext log bodies body bytes) (each : Within old.may_leave (HasBodies bodies)) where
  -- while the record is written and synced
  pub LeavesOnly-staging : (mid : DiskState)
      → LeavesOnly old mid (Stepped (Torn 0 (log.end + 1) (length bytes)) old.may_leave)
      → LeavesOnly old mid (HasBeforeOrAfter old.may_leave bodies body)
  LeavesOnly-staging mid run =
      LeavesOnly-wider old mid (Stepped (Torn 0 (log.end + 1) (length bytes)) old.may_leave)
      (HasBeforeOrAfter old.may_leave bodies body)
      (λ image stepped. inl (HasNow-staging old.may_leave bodies (log.end + 1) (length bytes)
      (omega (arith, next.of.end)) each image stepped))
      run

  module _ (mid : DiskState) (first : IsThrough old mid 0 (log.end + 1) bytes)
      (shown : IsSome old.holds) where
    -- after that
    staged : IsStaged old.may_leave bodies body mid.may_leave
    staged = IsStaged-written old.may_leave mid.may_leave log bodies body bytes next each
        (IsThrough-torn old mid 0 (log.end + 1) bytes first)
        (IsOver-through old mid 0 (log.end + 1) bytes first shown)

    -- while the gate is opened and synced
    pub LeavesOnly-opening : (new : DiskState)
        → LeavesOnly mid new (Stepped (Torn 0 log.end 1) mid.may_leave)
        → LeavesOnly old new (HasBeforeOrAfter old.may_leave bodies body)
    LeavesOnly-opening new run =
        let kind : Image → Type 0 = HasBeforeOrAfter old.may_leave bodies body in
        LeavesOnly-both old mid new kind (LeavesOnly-staging mid first.run)
        (LeavesOnly-wider mid new (Stepped (Torn 0 log.end 1) mid.may_leave) kind
        (IsStaged-opening old.may_leave mid.may_leave bodies body log.end next.of.end staged)
        run)

    -- after that
    pub HasNow-through : (new : DiskState) → IsThrough mid new 0 log.end (1 ∷ []) → IsSome mid.holds
        → Within new.may_leave (HasNow old.may_leave (bodies ++ body ∷ []))
    HasNow-through new second shown_mid =
        IsStaged-opened old.may_leave mid.may_leave new.may_leave bodies body log.end next.of.end
        staged (IsThrough-torn mid new 0 log.end (1 ∷ []) second)
        (IsOver-through mid new 0 log.end (1 ∷ []) second shown_mid)
