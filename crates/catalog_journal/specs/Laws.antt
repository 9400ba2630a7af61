-- Bytes are a catalogue of one list of bodies, or are damaged at one place; and what they are read
-- as is that list, or that place.
use Rattle.std.specs.Prelude.{◌≡◌, ◌<◌, ℕ, List, Ok, Err, slice_index}
use Rattle.catalog_journal.specs.Catalog.{IsCatalog, IsDamaged}
use Rattle.catalog_journal.specs.Reading.{read_catalog}

-- each is below 256
abbrev pub AreBytes : List ℕ → Type 0
AreBytes bytes = (i : ℕ) → slice_index bytes i < 256

pub record CatalogsHaveOneReading : Type 0 where
  pub again : (bytes : List ℕ) (bodies : List (List ℕ)) → IsCatalog bytes bodies
      → read_catalog bytes ≡ Ok bodies
  pub alone : (bytes : List ℕ) (bodies : List (List ℕ)) → AreBytes bytes
      → read_catalog bytes ≡ Ok bodies → IsCatalog bytes bodies
  pub fault : (bytes : List ℕ) (place : ℕ) → AreBytes bytes
      → read_catalog bytes ≡ Err place → IsDamaged bytes place
  pub damaged : (bytes : List ℕ) (place : ℕ) → AreBytes bytes
      → IsDamaged bytes place → read_catalog bytes ≡ Err place
