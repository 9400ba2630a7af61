-- The images of a making: first the catalogue's file is written, and then the mark file.
use Rattle.std.proofs.Common.{◌≡◌, ℕ, ◌+◌, ◌-◌, List, [], ◌∷◌, ◌++◌, length, drop, refl, sym, ◌∙◌, ap, subst, arith}
use Rattle.std.specs.Prelude.{None, Some, IfSome, IsSome, option_map, unwrap_or}
use Rattle.std.specs.declared.option.Option.{Option}
use Rattle.std.proofs.lemmas.List.{length-append}
use Rattle.std.proofs.lemmas.List.Elements.{All-nil}
use mathlib.Core.Logic.{inl, inr}
use Rattle.depot_disk.specs.Image.{Image, SameElsewhere, bytes_in, overwritten, written}
use Rattle.depot_disk.specs.Torn.{Torn}
use Rattle.depot_disk.specs.State.{DiskState, Elapses, IsDiskState, LeavesOnly, Stepped, Unchanged, Within}
use Rattle.depot_disk.proofs.RunLemmas.{LeavesOnly-both, LeavesOnly-call, LeavesOnly-wider}
use Rattle.depot_disk.proofs.TornLemmas.{with_file-elsewhere}
use Rattle.catalog_journal.specs.declared.log.Log.{Log}
use Rattle.catalog_journal.specs.Catalog.{IsBody, IsCatalog, MARK_FILE, framed, spelled}
use Rattle.catalog_journal.specs.Logs.{IsLogOf}
use Rattle.catalog_journal.specs.Moments.{HasBodies, HoldsLog, IsMade, IsUnmadeOrMade, IsUnmarked, SameOthers}
use Rattle.catalog_journal.proofs.SpellLemmas.{length-framed, length-spelled}
use Rattle.catalog_journal.proofs.CatalogLemmas.{IsCatalog-opened}
use Rattle.catalog_journal.proofs.ThroughLemmas.{IsOver, IsOver-through, IsThrough, IsThrough-torn}
use Rattle.catalog_journal.proofs.ThroughLemmas.{bytes_in-written}

-- every file beside the two is as in one of these images
abbrev pub HasOthers : (Image → Type 0) → Image → Type 0
HasOthers before image = (from : Image) × before from × SameOthers from image

-- the first record stands in the catalogue's file
pub record IsBegun (before : Image → Type 0) (body : List ℕ) (image : Image) : Type 0 where
  pub catalog : HasBodies (body ∷ []) image
  pub others : HasOthers before image

-- a change of one of the two files
SameOthers-catalog : (old new : Image) → SameElsewhere 0 old new → SameOthers old new
SameOthers-catalog old new same other first second = same other first

SameOthers-mark : (old mid new : Image) → SameOthers old mid → SameElsewhere MARK_FILE mid new
    → SameOthers old new
SameOthers-mark old mid new others same other first second =
    same other second ∙ others other first second

module _ (before : Image → Type 0) (body : List ℕ) where
  -- before the first write
  pub IsUnmadeOrMade-start : Within before IsUnmarked → Within before (IsUnmadeOrMade before body)
  IsUnmadeOrMade-start unmarked image left = record {
    either = inl (unmarked image left);
    others = (image, left, λ other first second. refl);
  }

  -- while the catalogue's file is written
  pub IsUnmadeOrMade-writing : (at count : ℕ) → Within before IsUnmarked
      → Within (Stepped (Torn 0 at count) before) (IsUnmadeOrMade before body)
  IsUnmadeOrMade-writing at count unmarked image stepped = record {
    either = inl (stepped.2.elsewhere MARK_FILE (λ is. omega (arith, is))
        ∙ unmarked stepped.0 stepped.1);
    others = (stepped.0, stepped.1, SameOthers-catalog stepped.0 image stepped.2.elsewhere);
  }

  -- after that
  pub IsBegun-written : (asked mid : Image → Type 0) (bytes : List ℕ) → Within asked before
      → IsBody body → bytes ≡ 1 ∷ framed body
      → Within mid (Stepped (Torn 0 0 (length bytes)) asked) → IsOver asked mid 0 0 bytes
      → Within mid (IsBegun before body)
  IsBegun-written asked mid bytes same short whole torn over image left =
      let from : Stepped (Torn 0 0 (length bytes)) asked image = torn image left in
      let rest : List ℕ = drop (0 + length bytes) (bytes_in over.held 0) in
      let stands : bytes_in image 0 ≡ 1 ∷ (framed body ++ rest) =
      ap (λ (content : Option (List ℕ)). unwrap_or content []) (over.here image left)
      ∙ ap (λ (l : List ℕ). l ++ rest) whole in
      record {
        catalog = subst (λ (l : List ℕ). IsCatalog l (body ∷ [])) (sym stands)
            (IsCatalog-opened [] body rest (All-nil IsBody) short (omega arith));
        others = (from.0, same from.0 from.1, SameOthers-catalog from.0 image from.2.elsewhere);
      }

  -- while the mark file is written, and ever after
  pub IsBegun-marking : (mid : Image → Type 0) (at count : ℕ) → Within mid (IsBegun before body)
      → Within (Stepped (Torn MARK_FILE at count) mid) (IsBegun before body)
  IsBegun-marking mid at count begun image stepped =
      let was : IsBegun before body stepped.0 = begun stepped.0 stepped.1 in
      let same : image 0 ≡ stepped.0 0 = stepped.2.elsewhere 0 (λ is. omega (arith, is)) in
      record {
        catalog = subst (λ (content : Option (List ℕ)). IsCatalog (unwrap_or content []) (body ∷ []))
            (sym same) was.catalog;
        others = (
          was.others.0,
          was.others.1,
          SameOthers-mark was.others.0 stepped.0 image was.others.2 stepped.2.elsewhere,
        );
      }

  pub IsBegun-made : Within (IsBegun before body) (IsUnmadeOrMade before body)
  IsBegun-made image begun = record { either = inr begun.catalog; others = begun.others }

-- the same of a disk: its size is asked for, and then the two files are written and synced
module _ (old asked : DiskState) (body bytes : List ℕ) (unmarked : Within old.may_leave IsUnmarked)
    (told : IsDiskState old) (same : Unchanged old asked) (time : Elapses old asked) where
  -- no write yet
  LeavesOnly-asking : LeavesOnly old asked (IsUnmadeOrMade old.may_leave body)
  LeavesOnly-asking =
      let kind : Image → Type 0 = IsUnmadeOrMade old.may_leave body in
      let start : Within old.may_leave kind = IsUnmadeOrMade-start old.may_leave body unmarked in
      LeavesOnly-call old asked kind told time start
      (λ image left. start image (same.no_more image left))

  -- while the catalogue's file is written
  pub LeavesOnly-beginning : (mid : DiskState)
      → LeavesOnly asked mid (Stepped (Torn 0 0 (length bytes)) asked.may_leave)
      → LeavesOnly old mid (IsUnmadeOrMade old.may_leave body)
  LeavesOnly-beginning mid run =
      let kind : Image → Type 0 = IsUnmadeOrMade old.may_leave body in
      LeavesOnly-both old asked mid kind LeavesOnly-asking
      (LeavesOnly-wider asked mid (Stepped (Torn 0 0 (length bytes)) asked.may_leave) kind
      (λ image stepped. IsUnmadeOrMade-writing old.may_leave body 0 (length bytes) unmarked image
      (stepped.0, same.no_more stepped.0 stepped.1, stepped.2))
      run)

  module _ (mid : DiskState) (first : IsThrough asked mid 0 0 bytes) (shown : IsSome asked.holds)
      (short : IsBody body) (whole : bytes ≡ 1 ∷ framed body) where
    -- after that
    begun : Within mid.may_leave (IsBegun old.may_leave body)
    begun = IsBegun-written old.may_leave body asked.may_leave mid.may_leave bytes same.no_more short
        whole (IsThrough-torn asked mid 0 0 bytes first) (IsOver-through asked mid 0 0 bytes first shown)

    -- while the mark file is written
    pub LeavesOnly-marking : (new : DiskState)
        → LeavesOnly mid new (Stepped (Torn MARK_FILE 0 1) mid.may_leave)
        → LeavesOnly old new (IsUnmadeOrMade old.may_leave body)
    LeavesOnly-marking new run =
        let kind : Image → Type 0 = IsUnmadeOrMade old.may_leave body in
        LeavesOnly-both old mid new kind (LeavesOnly-beginning mid first.run)
        (LeavesOnly-wider mid new (Stepped (Torn MARK_FILE 0 1) mid.may_leave) kind
        (λ image stepped. IsBegun-made old.may_leave body image
        (IsBegun-marking old.may_leave body mid.may_leave 0 1 begun image stepped))
        run)

    -- after that
    pub IsMade-through : (new : DiskState) → IsThrough mid new MARK_FILE 0 (1 ∷ []) → IsSome mid.holds
        → Within new.may_leave (IsMade old.may_leave body)
    IsMade-through new second shown_mid image left =
        let over : IsOver mid.may_leave new.may_leave MARK_FILE 0 (1 ∷ []) =
        IsOver-through mid new MARK_FILE 0 (1 ∷ []) second shown_mid in
        let is : IsBegun old.may_leave body image =
        IsBegun-marking old.may_leave body mid.may_leave 0 1 begun image
        (IsThrough-torn mid new MARK_FILE 0 (1 ∷ []) second image left) in
        record {
          mark = subst (λ (content : Option (List ℕ)). IsSome content) (sym (over.here image left)) refl;
          catalog = is.catalog;
          others = is.others;
        }

-- a log of one record
pub IsLogOf-first : (body bytes : List ℕ) (len : ℕ) → bytes ≡ 1 ∷ framed body → len ≡ length bytes
    → IsLogOf (record { end = len - 1; count = 1 }) (body ∷ [])
IsLogOf-first body bytes len whole all = record {
  end = omega (
    arith,
    all,
    ap length whole,
    length-framed body,
    length-spelled body,
    length-append (spelled body) [],
  );
  count = refl;
}

-- after both writes the disk holds its catalogue
pub HoldsLog-made : (log : Log) (body bytes : List ℕ) (held mid now : Option Image)
    → IsLogOf log (body ∷ []) → IsBody body → bytes ≡ 1 ∷ framed body
    → mid ≡ option_map (written 0 0 bytes) held
    → now ≡ option_map (written MARK_FILE 0 (1 ∷ [])) mid → IfSome now (HoldsLog log)
HoldsLog-made log body bytes held mid now of short whole first second =
    subst (λ (o : Option Image). IfSome o (HoldsLog log))
    (sym (second ∙ ap (λ (o : Option Image). option_map (written MARK_FILE 0 (1 ∷ [])) o) first))
    (known held)
  where
    known : (held : Option Image) → IfSome (option_map (written MARK_FILE 0 (1 ∷ []))
        (option_map (written 0 0 bytes) held)) (HoldsLog log)
    known None = tt
    known (Some image) =
        let old : List ℕ = bytes_in image 0 in
        let rest : List ℕ = drop (0 + length bytes) old in
        let mid : Image = written 0 0 bytes image in
        let marked : Option (List ℕ) = Some (overwritten (bytes_in mid MARK_FILE) 0 (1 ∷ [])) in
        let same : written MARK_FILE 0 (1 ∷ []) mid 0 ≡ mid 0 =
        with_file-elsewhere mid MARK_FILE marked 0 (λ is. omega (arith, is)) in
        let stands : bytes_in (written MARK_FILE 0 (1 ∷ []) mid) 0 ≡ 1 ∷ (framed body ++ rest) =
        ap (λ (content : Option (List ℕ)). unwrap_or content []) same
        ∙ bytes_in-written 0 0 bytes image
        ∙ ap (λ (l : List ℕ). l ++ rest) whole in (
          body ∷ [],
          of,
          subst (λ (l : List ℕ). IsCatalog l (body ∷ [])) (sym stands)
              (IsCatalog-opened [] body rest (All-nil IsBody) short (omega arith)),
        )
