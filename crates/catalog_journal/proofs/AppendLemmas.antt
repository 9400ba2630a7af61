-- The images of an append: first the record is written after the closed gate, and then that gate is
-- opened.
use Rattle.std.proofs.Common.{◌≡◌, ℕ, ◌+◌, ◌<◌, ◌≤◌, All, List, [], ◌∷◌, ◌++◌}
use Rattle.std.proofs.Common.{length, drop, sym, ◌∙◌, ap, subst, arith}
use Rattle.std.specs.Prelude.{None, Some, unwrap_or}
use Rattle.std.specs.declared.option.Option.{Option}
use Rattle.std.proofs.lemmas.List.{length-append}
use mathlib.Core.Logic.{inl, inr}
use Rattle.depot_disk.specs.Image.{Image, SameElsewhere, bytes_in, overwritten}
use Rattle.depot_disk.specs.Torn.{Torn, TornFile}
use Rattle.depot_disk.specs.State.{Stepped, Within}
use Rattle.catalog_journal.specs.declared.log.Log.{Log}
use Rattle.catalog_journal.specs.Catalog.{IsBody, IsCatalog, MOST_RECORDS, framed, open_records}
use Rattle.catalog_journal.specs.Logs.{IsFramed, IsLogOf, framed_body}
use Rattle.catalog_journal.specs.Moments.{HasBeforeOrAfter, HasBodies, HasNow}
use Rattle.catalog_journal.proofs.SpellLemmas.{length-framed, length-open_records-push}
use Rattle.catalog_journal.proofs.ThroughLemmas.{IsOver, SameElsewhere-both}
use Rattle.catalog_journal.proofs.CatalogLemmas.{IsCatalog-after, IsCatalog-any_gate}
use Rattle.catalog_journal.proofs.CatalogLemmas.{IsCatalog-opened, overwritten-after}
use Rattle.catalog_journal.proofs.CatalogLemmas.{overwritten-gate, torn-gate}

-- a file that is absent is no catalogue
absent-no_catalog : (bodies : List (List ℕ)) → IsCatalog [] bodies → ⊥
absent-no_catalog bodies is =
    omega (arith, ap length is.whole, length-append (open_records bodies) (is.gate ∷ is.rest))

-- the file of a catalogue, torn after its gate
after-file : (old new : Option (List ℕ)) (bodies : List (List ℕ)) (place count : ℕ)
    → place ≡ length (open_records bodies) + 1 → IsCatalog (unwrap_or old []) bodies
    → TornFile place count old new → IsCatalog (unwrap_or new []) bodies
after-file (Some old) (Some new) bodies place count at is torn =
    IsCatalog-after old new bodies place count at is torn
after-file (Some old) None bodies place count at is torn = absurd torn
after-file None new bodies place count at is torn = absurd (absent-no_catalog bodies is)

-- the file of a catalogue, torn at its gate
gate-file : (front rest : List ℕ) (gate place : ℕ) (old new : Option (List ℕ))
    → place ≡ length front → old ≡ Some (front ++ gate ∷ rest) → TornFile place 1 old new
    → (other : ℕ) × (unwrap_or new [] ≡ front ++ other ∷ rest)
gate-file front rest gate place old new at was torn =
    known new (subst (λ (from : Option (List ℕ)). TornFile (length front) 1 from new) was
    (subst (λ (n : ℕ). TornFile n 1 old new) at torn))
  where
    known : (new : Option (List ℕ)) → TornFile (length front) 1 (Some (front ++ gate ∷ rest)) new
        → (other : ℕ) × (unwrap_or new [] ≡ front ++ other ∷ rest)
    known (Some now) torn = torn-gate front rest now gate torn
    known None torn = absurd torn

-- while the record is written, the catalogue is as before
pub HasNow-staging : (before : Image → Type 0) (bodies : List (List ℕ)) (place count : ℕ)
    → place ≡ length (open_records bodies) + 1 → Within before (HasBodies bodies)
    → Within (Stepped (Torn 0 place count) before) (HasNow before bodies)
HasNow-staging before bodies place count at each = λ image stepped. record {
  catalog = after-file (stepped.0 0) (image 0) bodies place count at (each stepped.0 stepped.1)
      stepped.2.within;
  others = (stepped.0, stepped.1, stepped.2.elsewhere);
}

-- the record is written, and all images have it after their gate
pub record IsStaged (before : Image → Type 0) (bodies : List (List ℕ)) (body : List ℕ)
    (mid : Image → Type 0) : Type 0 where
  pub gate : ℕ
  pub rest : List ℕ
  pub few : length bodies < MOST_RECORDS
  pub some : 1 ≤ length bodies
  pub each : All IsBody bodies
  pub short : IsBody body
  pub now : Within mid (HasNow before bodies)
  pub bytes : (image : Image) → mid image
      → image 0 ≡ Some (open_records bodies ++ gate ∷ (framed body ++ rest))

-- while the gate is opened, the catalogue is as before, or has the record too
pub IsStaged-opening : (before mid : Image → Type 0) (bodies : List (List ℕ)) (body : List ℕ)
    (place : ℕ) → place ≡ length (open_records bodies) → IsStaged before bodies body mid
    → Within (Stepped (Torn 0 place 1) mid) (HasBeforeOrAfter before bodies body)
IsStaged-opening before mid bodies body place at staged = λ image stepped.
    let from : Image = stepped.0 in
    let was : HasNow before bodies from = staged.now from stepped.1 in
    let file : (other : ℕ) × (bytes_in image 0
    ≡ open_records bodies ++ other ∷ (framed body ++ staged.rest)) =
    gate-file (open_records bodies) (framed body ++ staged.rest) staged.gate place (from 0)
    (image 0) at (staged.bytes from stepped.1) stepped.2.within in
    let same : SameElsewhere 0 was.others.0 image =
    SameElsewhere-both 0 was.others.0 from image was.others.2 stepped.2.elsewhere in
    elim (IsCatalog-any_gate bodies body staged.rest file.0 staged.each staged.short staged.few
    staged.some) [
      | inl less ↦ inl (record {
        catalog = subst (λ (l : List ℕ). IsCatalog l bodies) (sym file.1) less;
        others = (was.others.0, was.others.1, same);
      })
      | inr more ↦ inr (record {
        catalog = subst (λ (l : List ℕ). IsCatalog l (bodies ++ body ∷ [])) (sym file.1) more;
        others = (was.others.0, was.others.1, same);
      })
    ]

-- once the gate is open, the catalogue has the record
pub IsStaged-opened : (before mid now : Image → Type 0) (bodies : List (List ℕ)) (body : List ℕ)
    (place : ℕ) → place ≡ length (open_records bodies) → IsStaged before bodies body mid
    → Within now (Stepped (Torn 0 place 1) mid) → IsOver mid now 0 place (1 ∷ [])
    → Within now (HasNow before (bodies ++ body ∷ []))
IsStaged-opened before mid now bodies body place at staged torn over image left =
    let stepped : Stepped (Torn 0 place 1) mid image = torn image left in
    let from : Image = stepped.0 in
    let was : HasNow before bodies from = staged.now from stepped.1 in
    let front : List ℕ = open_records bodies in
    let after : List ℕ = framed body ++ staged.rest in
    let bytes : bytes_in image 0 ≡ front ++ 1 ∷ after =
    ap (λ (content : Option (List ℕ)). unwrap_or content []) (over.here image left)
    ∙ ap (λ (content : Option (List ℕ)). overwritten (unwrap_or content []) place (1 ∷ []))
    (staged.bytes over.held over.was)
    ∙ ap (λ (n : ℕ). overwritten (front ++ staged.gate ∷ after) n (1 ∷ [])) at
    ∙ overwritten-gate front after staged.gate 1 in
    record {
      catalog = subst (λ (l : List ℕ). IsCatalog l (bodies ++ body ∷ [])) (sym bytes)
          (IsCatalog-opened bodies body staged.rest staged.each staged.short staged.few);
      others = (
        was.others.0,
        was.others.1,
        SameElsewhere-both 0 was.others.0 from image was.others.2 stepped.2.elsewhere,
      );
    }

-- these bytes are a body framed, and a log of these bodies has room for it
pub record IsNext (log : Log) (bodies : List (List ℕ)) (body bytes : List ℕ) : Type 0 where
  pub of : IsLogOf log bodies
  pub whole : bytes ≡ framed body
  pub short : IsBody body
  pub few : length bodies < MOST_RECORDS

pub IsNext-framed : (log : Log) (bodies : List (List ℕ)) (body inside bytes : List ℕ)
    → IsLogOf log bodies → IsFramed inside → framed_body inside ≡ body → bytes ≡ inside
    → log.count < MOST_RECORDS → IsNext log bodies body bytes
IsNext-framed log bodies body inside bytes of is same value room = record {
  of = of;
  whole = value ∙ is.whole ∙ ap framed same;
  short = subst IsBody same is.short;
  few = omega (arith, of.count, room);
}

-- the log afterwards
pub IsLogOf-next : (log : Log) (bodies : List (List ℕ)) (body bytes : List ℕ) (len : ℕ)
    → IsNext log bodies body bytes → len ≡ length bytes
    → IsLogOf (record { end = log.end + len; count = log.count + 1 }) (bodies ++ body ∷ [])
IsLogOf-next log bodies body bytes len next all = record {
  end = omega (
    arith,
    all,
    next.of.end,
    ap length next.whole,
    length-framed body,
    length-open_records-push bodies body,
  );
  count = omega (arith, next.of.count, length-append bodies (body ∷ []));
}

-- a record that is written after the gate stands there
pub overwritten-framed : (log : Log) (bodies : List (List ℕ)) (body bytes old : List ℕ)
    → IsNext log bodies body bytes → (catalog : IsCatalog old bodies)
    → overwritten old (log.end + 1) bytes
    ≡ open_records bodies ++ catalog.gate ∷ (framed body ++ drop (length bytes) catalog.rest)
overwritten-framed log bodies body bytes old next catalog =
    let front : List ℕ = open_records bodies in
    ap (λ (l : List ℕ). overwritten l (log.end + 1) bytes) catalog.whole
    ∙ ap (λ (n : ℕ). overwritten (front ++ catalog.gate ∷ catalog.rest) (n + 1) bytes) next.of.end
    ∙ overwritten-after front catalog.rest bytes catalog.gate
    ∙ ap (λ (l : List ℕ). front ++ catalog.gate ∷ (l ++ drop (length bytes) catalog.rest)) next.whole

-- and once the gate is opened too, it is one of the catalogue's
pub IsCatalog-appended : (log : Log) (bodies : List (List ℕ)) (body bytes old : List ℕ)
    → IsNext log bodies body bytes → IsCatalog old bodies
    → IsCatalog (overwritten (overwritten old (log.end + 1) bytes) log.end (1 ∷ [])) (bodies ++ body ∷ [])
IsCatalog-appended log bodies body bytes old next catalog =
    let front : List ℕ = open_records bodies in
    let rest : List ℕ = drop (length bytes) catalog.rest in
    let now : overwritten (overwritten old (log.end + 1) bytes) log.end (1 ∷ [])
    ≡ front ++ 1 ∷ (framed body ++ rest) =
    ap (λ (l : List ℕ). overwritten l log.end (1 ∷ []))
    (overwritten-framed log bodies body bytes old next catalog)
    ∙ ap (λ (n : ℕ). overwritten (front ++ catalog.gate ∷ (framed body ++ rest)) n (1 ∷ [])) next.of.end
    ∙ overwritten-gate front (framed body ++ rest) catalog.gate 1 in
    subst (λ (l : List ℕ). IsCatalog l (bodies ++ body ∷ [])) (sym now)
    (IsCatalog-opened bodies body rest catalog.each next.short next.few)

-- once the record is on the disk, it stands after the gate in each image
pub IsStaged-written : (before mid : Image → Type 0) (log : Log) (bodies : List (List ℕ))
    (body bytes : List ℕ) → IsNext log bodies body bytes → Within before (HasBodies bodies)
    → Within mid (Stepped (Torn 0 (log.end + 1) (length bytes)) before)
    → IsOver before mid 0 (log.end + 1) bytes → IsStaged before bodies body mid
IsStaged-written before mid log bodies body bytes next each torn over =
    let catalog : IsCatalog (bytes_in over.held 0) bodies = each over.held over.was in
    record {
      gate = catalog.gate;
      rest = drop (length bytes) catalog.rest;
      few = next.few;
      some = catalog.some;
      each = catalog.each;
      short = next.short;
      now = λ image left. HasNow-staging before bodies (log.end + 1) (length bytes)
          (omega (arith, next.of.end)) each image (torn image left);
      bytes = λ image left. over.here image left ∙ ap (λ (l : List ℕ). Some l)
          (overwritten-framed log bodies body bytes (bytes_in over.held 0) next catalog);
    }
