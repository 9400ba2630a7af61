-- A disk is filled with what a pick leaves of each file.
use Rattle.std.proofs.Common.{◌≡◌, ℕ, ◌+◌, ◌≤◌, ◌⊎◌, List, [], ◌∷◌, ◌++◌, length, take}
use Rattle.std.proofs.Common.{refl, sym, ◌∙◌, ap, subst, arith}
use Rattle.std.specs.Prelude.{◌≢◌, ◌==◌, Bool, true, false, if◌then◌else◌, is_some, None, Some}
use Rattle.std.specs.Prelude.{unwrap_or, Result, Ok, Err, OnOk}
use Rattle.std.specs.declared.option.Option.{Option}
use Rattle.std.proofs.lemmas.Bool.{cases_eq, false≢true}
use Rattle.std.proofs.lemmas.List.{append-nil, drop_all, take_all}
use mathlib.Core.Logic.{inl, inr}
use Rattle.depot_disk.specs.Image.{overwritten}
use Rattle.depot_disk.specs.Life.{Change, Synced, Wrote, IsSettled, MayLeaveFile, content_of}
use Rattle.depot_disk.specs.Picks.{picked}
use Rattle.depot_disk.specs.Record.{LeftBy, held_by, life_of}
use Rattle.depot_disk.specs.MemDisk.{steps_of}
use Rattle.depot_disk.specs.declared.step.Step.{Step}
use Rattle.depot_disk.specs.After.{DoesPicked, HasPicked, PutsWhole}
use Rattle.depot_disk.proofs.RecordLemmas.{life_of-elsewhere, life_of-step}
use Rattle.depot_disk.proofs.PickLemmas.{MayLeaveFile-picked}

-- one step more is done, if its file is as the pick leaves it
HasPicked-each : (pick file : ℕ) (change : Change) (steps done old new : List (ℕ × Change))
    → ((other : ℕ) → (held_by old other ≡ picked pick (life_of other steps))
    ⊎ ((held_by old other ≡ None) × (life_of other done ≡ [])))
    → held_by new file ≡ picked pick (life_of file steps)
    → ((other : ℕ) → other ≢ file → held_by new other ≡ held_by old other)
    → (other : ℕ) → (held_by new other ≡ picked pick (life_of other steps))
    ⊎ ((held_by new other ≡ None) × (life_of other ((file, change) ∷ done) ≡ []))
HasPicked-each pick file change steps done old new each here elsewhere other =
    elim (cases_eq other file) [
      | inl same ↦ inl (subst (λ (name : ℕ). held_by new name ≡ picked pick (life_of name steps))
          (sym same) here)
      | inr apart ↦ elim (each other) [
        | inl is ↦ inl (elsewhere other apart ∙ is)
        | inr none ↦ inr (
          elsewhere other apart ∙ none.0,
          life_of-elsewhere file change done other apart ∙ none.1,
        )
      ]
    ]

module _ (file : ℕ) (bytes : List ℕ) (old : List (ℕ × Change)) where
  -- the life of a file that is put as a whole
  life_of-put : life_of file ((file, Synced) ∷ (file, Wrote 0 bytes) ∷ old)
      ≡ Synced ∷ Wrote 0 bytes ∷ life_of file old
  life_of-put = life_of-step file Synced ((file, Wrote 0 bytes) ∷ old)
      ∙ ap (λ (life : List Change). Synced ∷ life) (life_of-step file (Wrote 0 bytes) old)

  -- of every other file
  life_of-put-elsewhere : (other : ℕ) → other ≢ file
      → life_of other ((file, Synced) ∷ (file, Wrote 0 bytes) ∷ old) ≡ life_of other old
  life_of-put-elsewhere other apart =
      life_of-elsewhere file Synced ((file, Wrote 0 bytes) ∷ old) other apart
      ∙ life_of-elsewhere file (Wrote 0 bytes) old other apart

  -- it holds the bytes
  held_by-put : held_by old file ≡ None
      → held_by ((file, Synced) ∷ (file, Wrote 0 bytes) ∷ old) file ≡ Some bytes
  held_by-put none = ap content_of life_of-put
      ∙ ap (λ (content : Option (List ℕ)). Some (overwritten (unwrap_or content []) 0 bytes)) none
      ∙ ap (λ (rest : List ℕ). Some (bytes ++ rest)) (drop_all (0 + length bytes) [] (omega arith))
      ∙ ap (λ (whole : List ℕ). Some whole) (append-nil bytes)

  -- a stop leaves each file as it is held, if that was so before
  settled-put : ((other : ℕ) → IsSettled (life_of other old)) → (other : ℕ)
      → IsSettled (life_of other ((file, Synced) ∷ (file, Wrote 0 bytes) ∷ old))
  settled-put settled other = elim (cases_eq other file) [
    | inl same ↦ subst (λ (name : ℕ).
        IsSettled (life_of name ((file, Synced) ∷ (file, Wrote 0 bytes) ∷ old))) (sym same)
        (subst (λ (life : List Change). IsSettled life) (sym life_of-put) (λ content left. left))
    | inr apart ↦ subst (λ (life : List Change). IsSettled life)
        (sym (life_of-put-elsewhere other apart)) (settled other)
  ]

-- a test that nothing is there
pub None-is_some : (content : Option (List ℕ)) → is_some content ≡ false → content ≡ None
None-is_some None none = refl
None-is_some (Some bytes) none = absurd (false≢true (sym none))

-- a step of a file that is not there, once its file is put as the pick leaves it
pub HasPicked-put : (pick file : ℕ) (change : Change) (steps done old new : List (ℕ × Change))
    (content : Option (List ℕ)) → held_by old file ≡ None
    → content ≡ picked pick (life_of file steps) → PutsWhole file content old new
    → HasPicked pick steps done old → HasPicked pick steps ((file, change) ∷ done) new
HasPicked-put pick file change steps done old new None none is same picks =
    subst (λ (now : List (ℕ × Change)). HasPicked pick steps ((file, change) ∷ done) now) (sym same)
    (record {
      each = HasPicked-each pick file change steps done old old picks.each (none ∙ is)
          (λ other apart. refl);
      settled = picks.settled;
    })
HasPicked-put pick file change steps done old new (Some bytes) none is puts picks =
    subst (λ (now : List (ℕ × Change)). HasPicked pick steps ((file, change) ∷ done) now) (sym puts)
    (record {
      each = HasPicked-each pick file change steps done old
          ((file, Synced) ∷ (file, Wrote 0 bytes) ∷ old) picks.each
          (held_by-put file bytes old none ∙ is)
          (λ other apart. ap content_of (life_of-put-elsewhere file bytes old other apart));
      settled = settled-put file bytes old picks.settled;
    })

-- a step is done once its file is put as the pick leaves it
pub DoesPicked-put : {T E : Type 0} (result : Result T E) (pick : ℕ)
    (steps old new : List (ℕ × Change)) (step : ℕ × Change) (content : Option (List ℕ))
    → is_some (held_by old step.0) ≡ false → content ≡ picked pick (life_of step.0 steps)
    → OnOk result (PutsWhole step.0 content old new)
    → OnOk result (DoesPicked pick steps step old new)
DoesPicked-put (Err _) pick steps old new step content absent is puts = tt
DoesPicked-put (Ok _) pick steps old new step content absent is puts =
    λ done picks. HasPicked-put pick step.0 step.1 steps done old new content
    (None-is_some (held_by old step.0) absent) is puts picks

-- after the last step each file is as the pick leaves it
pub HasPicked-end : (pick : ℕ) (all : List Step) (index : ℕ) (new : List (ℕ × Change))
    → length all ≤ index → HasPicked pick (steps_of all) (steps_of (take index all)) new
    → HasPicked pick (steps_of all) (steps_of all) new
HasPicked-end pick all index new past picks =
    subst (λ (done : List Step). HasPicked pick (steps_of all) (steps_of done) new)
    (take_all index all past) picks

-- at the end each file is as the pick leaves it
pub HasPicked-all : (pick : ℕ) (steps new : List (ℕ × Change)) → HasPicked pick steps steps new
    → (file : ℕ) → held_by new file ≡ picked pick (life_of file steps)
HasPicked-all pick steps new picks file = elim (picks.each file) [
  | inl is ↦ is
  | inr none ↦ none.0 ∙ sym (nothing pick) ∙ ap (λ (life : List Change). picked pick life) (sym none.1)
]
  where
    if_same : (test : Bool) (one other : Option (List ℕ)) → one ≡ None → other ≡ None
        → (if test then one else other) ≡ None
    if_same true one other first second = first
    if_same false one other first second = second

    nothing : (pick : ℕ) → picked pick [] ≡ None
    nothing pick = if_same (pick == 0) None (if pick == 1 then None else None) refl
        (if_same (pick == 1) None None refl refl)

-- and so the image is one that a stop may leave
pub LeftBy-picked : (pick : ℕ) (steps new : List (ℕ × Change))
    → ((file : ℕ) → held_by new file ≡ picked pick (life_of file steps))
    → LeftBy steps (held_by new)
LeftBy-picked pick steps new each file =
    subst (λ (content : Option (List ℕ)). MayLeaveFile (life_of file steps) content)
    (sym (each file)) (MayLeaveFile-picked pick (life_of file steps))
