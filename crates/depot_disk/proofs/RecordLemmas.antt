-- One step more: the life of its file has one change more, and every other life is as it was.
use Rattle.std.proofs.Common.{◌≡◌, ℕ, List, ◌∷◌, length, refl, sym, ◌∙◌, ap, subst}
use Rattle.std.specs.Prelude.{◌≢◌, Bool, if◌then◌else◌}
use Rattle.std.specs.declared.option.Option.{Option}
use Rattle.std.proofs.lemmas.Bool.{cases_eq, eq-eqb, ne_eqb}
use mathlib.Core.Logic.{inl, inr}
use Rattle.depot_disk.specs.Image.{Image, SameElsewhere, with_file}
use Rattle.depot_disk.specs.Torn.{Torn, TornFile}
use Rattle.depot_disk.specs.State.{Stepped, Within}
use Rattle.depot_disk.specs.Life.{Change, Removed, Synced, Wrote, MayLeaveFile, content_of}
use Rattle.depot_disk.specs.Record.{LeftBy, held_by, life_of}
use Rattle.depot_disk.specs.Laws.{MayLeaveFile-content_of}
use Rattle.depot_disk.proofs.TornLemmas.{TornFile-overwritten, with_file-elsewhere, with_file-same}

module _ (file : ℕ) (change : Change) (steps : List (ℕ × Change)) where
  -- the life of the step's file
  pub life_of-step : life_of file ((file, change) ∷ steps) ≡ change ∷ life_of file steps
  life_of-step =
      ap (λ (test : Bool). if test then change ∷ life_of file steps else life_of file steps)
      (eq-eqb file file refl)

  -- the life of every other file
  pub life_of-elsewhere : (other : ℕ) → other ≢ file
      → life_of other ((file, change) ∷ steps) ≡ life_of other steps
  life_of-elsewhere other apart =
      ap (λ (test : Bool). if test then change ∷ life_of other steps else life_of other steps)
      (ne_eqb other file apart)

  -- what is held of each file
  held_at-step : (other : ℕ) → held_by ((file, change) ∷ steps) other
      ≡ with_file (held_by steps) file (content_of (change ∷ life_of file steps)) other
  held_at-step other =
      let content = content_of (change ∷ life_of file steps) in
      let new = held_by ((file, change) ∷ steps) in
      let changed = with_file (held_by steps) file content in
      elim (cases_eq other file) [
        | inl same ↦ subst (λ (name : ℕ). new name ≡ changed name) (sym same)
            (ap content_of life_of-step ∙ sym (with_file-same (held_by steps) file content))
        | inr apart ↦ ap content_of (life_of-elsewhere other apart)
            ∙ sym (with_file-elsewhere (held_by steps) file content other apart)
      ]

  -- what is held
  pub held_by-step : held_by ((file, change) ∷ steps)
      ≡ with_file (held_by steps) file (content_of (change ∷ life_of file steps))
  held_by-step = λ i other. held_at-step other i

  -- what a stop may leave of the step's file
  pub LeftBy-file : (image : Image) → LeftBy ((file, change) ∷ steps) image
      → MayLeaveFile (change ∷ life_of file steps) (image file)
  LeftBy-file image left =
      subst (λ (life : List Change). MayLeaveFile life (image file)) life_of-step (left file)

  -- and of every other file
  pub LeftBy-elsewhere : (image : Image) → LeftBy ((file, change) ∷ steps) image
      → (other : ℕ) → other ≢ file → MayLeaveFile (life_of other steps) (image other)
  LeftBy-elsewhere image left other apart =
      subst (λ (life : List Change). MayLeaveFile life (image other))
      (life_of-elsewhere other apart) (left other)

  -- an image from before the step that has the other files of one from after it
  pub LeftBy-with_file : (image : Image) (content : Option (List ℕ))
      → LeftBy ((file, change) ∷ steps) image → MayLeaveFile (life_of file steps) content
      → LeftBy steps (with_file image file content)
  LeftBy-with_file image content left leaves other = elim (cases_eq other file) [
    | inl same ↦ subst (λ (name : ℕ).
        MayLeaveFile (life_of name steps) (with_file image file content name)) (sym same)
        (subst (λ (now : Option (List ℕ)). MayLeaveFile (life_of file steps) now)
        (sym (with_file-same image file content)) leaves)
    | inr apart ↦ subst (λ (now : Option (List ℕ)). MayLeaveFile (life_of other steps) now)
        (sym (with_file-elsewhere image file content other apart))
        (LeftBy-elsewhere image left other apart)
  ]

-- a write leaves what was left before, torn
torn_from : (at : ℕ) (bytes : List ℕ) (older : List Change) (content : Option (List ℕ))
    → MayLeaveFile (Wrote at bytes ∷ older) content
    → (from : Option (List ℕ)) × MayLeaveFile older from × TornFile at (length bytes) from content
torn_from at bytes older content (inl held) = (
  content_of older,
  MayLeaveFile-content_of older,
  subst (λ (now : Option (List ℕ)). TornFile at (length bytes) (content_of older) now)
      (sym held) (TornFile-overwritten (content_of older) at bytes),
)
torn_from at bytes older content (inr torn) = torn

-- a write leaves an image from before it, with the file torn
pub LeftBy-write : (file at : ℕ) (bytes : List ℕ) (steps : List (ℕ × Change))
    → Within (LeftBy ((file, Wrote at bytes) ∷ steps))
    (Stepped (Torn file at (length bytes)) (LeftBy steps))
LeftBy-write file at bytes steps image left =
    let torn = torn_from at bytes (life_of file steps) (image file)
    (LeftBy-file file (Wrote at bytes) steps image left) in
    let from = with_file image file torn.0 in (
      from,
      LeftBy-with_file file (Wrote at bytes) steps image torn.0 left torn.1,
      record {
        within = subst (λ (old : Option (List ℕ)). TornFile at (length bytes) old (image file))
            (sym (with_file-same image file torn.0)) torn.2;
        elsewhere = λ other apart. sym (with_file-elsewhere image file torn.0 other apart);
      },
    )

-- a sync leaves the file as it is held
pub LeftBy-sync-fixed : (file : ℕ) (steps : List (ℕ × Change)) (image : Image)
    → LeftBy ((file, Synced) ∷ steps) image → image file ≡ held_by steps file
LeftBy-sync-fixed file steps image left = LeftBy-file file Synced steps image left

-- a sync leaves no image that was not left before
pub LeftBy-sync : (file : ℕ) (steps : List (ℕ × Change))
    → Within (LeftBy ((file, Synced) ∷ steps)) (LeftBy steps)
LeftBy-sync file steps image left other = elim (cases_eq other file) [
  | inl same ↦ subst (λ (name : ℕ). MayLeaveFile (life_of name steps) (image name)) (sym same)
      (subst (λ (now : Option (List ℕ)). MayLeaveFile (life_of file steps) now)
      (sym (LeftBy-sync-fixed file steps image left)) (MayLeaveFile-content_of (life_of file steps)))
  | inr apart ↦ LeftBy-elsewhere file Synced steps image left other apart
]

-- a removal leaves an image from before it, but for the file
pub LeftBy-remove : (file : ℕ) (steps : List (ℕ × Change))
    → Within (LeftBy ((file, Removed) ∷ steps)) (Stepped (SameElsewhere file) (LeftBy steps))
LeftBy-remove file steps image left =
    let held = held_by steps file in (
      with_file image file held,
      LeftBy-with_file file Removed steps image held left (MayLeaveFile-content_of (life_of file steps)),
      λ other apart. sym (with_file-elsewhere image file held other apart),
    )
