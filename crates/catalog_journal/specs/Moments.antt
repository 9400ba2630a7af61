-- The images that a stop may leave while a catalogue is made, or gains a record.
use Rattle.std.specs.Prelude.{◌≡◌, ◌≢◌, ◌⊎◌, ℕ, List, [], ◌∷◌, ◌++◌, None, IsSome}
use Rattle.depot_disk.specs.Image.{Image, SameElsewhere, bytes_in}
use Rattle.catalog_journal.specs.declared.log.Log.{Log}
use Rattle.catalog_journal.specs.Catalog.{CATALOG_FILE, MARK_FILE, IsCatalog}
use Rattle.catalog_journal.specs.Logs.{IsLogOf}

-- the catalogue of an image has these bodies
abbrev pub HasBodies : List (List ℕ) → Image → Type 0
HasBodies bodies image = IsCatalog (bytes_in image CATALOG_FILE) bodies

-- the catalogue of an image is that of a log
abbrev pub HoldsLog : Log → Image → Type 0
HoldsLog log image = (bodies : List (List ℕ)) × IsLogOf log bodies × HasBodies bodies image

-- the catalogue has these bodies, and each other file is as in one of these images
pub record HasNow (images : Image → Type 0) (bodies : List (List ℕ)) (image : Image) : Type 0 where
  pub catalog : HasBodies bodies image
  pub others : (from : Image) × images from × SameElsewhere CATALOG_FILE from image

-- the same with these bodies, or with one more
abbrev pub HasBeforeOrAfter : (Image → Type 0) → List (List ℕ) → List ℕ → Image → Type 0
HasBeforeOrAfter images bodies body image =
    HasNow images bodies image ⊎ HasNow images (bodies ++ body ∷ []) image

-- no mark file is there
abbrev pub IsUnmarked : Image → Type 0
IsUnmarked image = image MARK_FILE ≡ None

-- every file but those of the catalogue and the mark is as in the other image
abbrev pub SameOthers : Image → Image → Type 0
SameOthers old new =
    (other : ℕ) → other ≢ CATALOG_FILE → other ≢ MARK_FILE → new other ≡ old other

-- there is no mark file, or the catalogue has this body alone; each file beside these two is as in
-- one of these images
pub record IsUnmadeOrMade (images : Image → Type 0) (body : List ℕ) (image : Image) : Type 0 where
  pub either : IsUnmarked image ⊎ HasBodies (body ∷ []) image
  pub others : (from : Image) × images from × SameOthers from image

-- the mark file is there, the catalogue has this body alone; each file beside is as in one of these
pub record IsMade (images : Image → Type 0) (body : List ℕ) (image : Image) : Type 0 where
  pub mark : IsSome (image MARK_FILE)
  pub catalog : HasBodies (body ∷ []) image
  pub others : (from : Image) × images from × SameOthers from image
