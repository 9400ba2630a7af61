-- The bodies of a depot's catalogue: one more for an entry more (`bodies_grow`), and how many they
-- are (`length-bodies_of`): so few that no entry has the mark file (`next_file-few`).
use Rattle.std.proofs.Common.{◌≡◌, ◌<◌, ℕ, suc, List, [], ◌∷◌, ◌++◌, ap, arith, length, refl, sym}
use Rattle.std.proofs.lemmas.List.{length_push}
use Rattle.std.proofs.lemmas.Slice.Zip.{AllZip-long}
use Rattle.depot_disk.specs.Image.{Image}
use Rattle.catalog_journal.specs.Catalog.{MARK_FILE}
use Rattle.catalog_journal.specs.Moments.{HasBodies}
use Rattle.row_codec.specs.Bodies.{body_bytes}
use Rattle.view_meaning.specs.declared.journal.Entry.{Entry}
use Rattle.depot_recovery.specs.Depots.{DepotOf, bodies_of, body_of, entry_bodies, first_body}
use Rattle.depot_recovery.specs.Growth.{BodiesGrow, depot_with, next_file}
use Rattle.depot_recovery.specs.Images.{IsDepot, IsWritable}

-- each entry has a length
pub lengths-same : (depot : DepotOf) → IsDepot depot → length depot.entries ≡ length depot.lengths
lengths-same depot made =
    sym (AllZip-long (IsWritable depot.desc) depot.entries depot.lengths made.written)

-- the bodies of entries with one more are theirs and that one's
pub entry_bodies-push : (entries : List Entry) (lengths : List ℕ) (next : Entry) (len : ℕ)
    → length entries ≡ length lengths
    → entry_bodies (entries ++ next ∷ []) (lengths ++ len ∷ [])
    ≡ entry_bodies entries lengths ++ body_bytes (body_of next len) ∷ []
entry_bodies-push [] [] next len same = refl
entry_bodies-push [] (first ∷ lengths) next len same = absurd (omega (arith, same))
entry_bodies-push (first ∷ entries) [] next len same = absurd (omega (arith, same))
entry_bodies-push (first ∷ entries) (size ∷ lengths) next len same =
    ap (λ (bodies : List (List ℕ)). body_bytes (body_of first size) ∷ bodies)
    (entry_bodies-push entries lengths next len (omega (arith, same)))

-- they are as many as the entries
length-entry_bodies : (entries : List Entry) (lengths : List ℕ) → length entries ≡ length lengths
    → length (entry_bodies entries lengths) ≡ length entries
length-entry_bodies [] lengths same = refl
length-entry_bodies (first ∷ entries) [] same = absurd (omega (arith, same))
length-entry_bodies (first ∷ entries) (size ∷ lengths) same =
    ap suc (length-entry_bodies entries lengths (omega (arith, same)))

pub bodies_grow : BodiesGrow
bodies_grow depot next bytes made =
    ap (λ (bodies : List (List ℕ)). first_body depot.desc ∷ bodies)
    (entry_bodies-push depot.entries depot.lengths next (length bytes) (lengths-same depot made))

-- record 0 and those of the entries are as many as the number of the entry to come
pub length-bodies_of : (depot : DepotOf) → IsDepot depot
    → length (bodies_of depot) ≡ next_file depot
length-bodies_of depot made =
    ap suc (length-entry_bodies depot.entries depot.lengths (lengths-same depot made))

-- so its file is not the mark file if the catalogue has the entry's body
pub next_file-few : (depot : DepotOf) (next : Entry) (bytes : List ℕ) (image : Image)
    → IsDepot (depot_with depot next bytes)
    → HasBodies (bodies_of (depot_with depot next bytes)) image → next_file depot < MARK_FILE
next_file-few depot next bytes image made catalog =
    omega (
      arith,
      catalog.few,
      length-bodies_of (depot_with depot next bytes) made,
      length_push depot.entries next,
    )
