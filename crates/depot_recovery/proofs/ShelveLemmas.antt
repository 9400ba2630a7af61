-- The body at a number of a catalogue is that of the entry before it, and is read as nothing else.
use Rattle.std.proofs.Common.{◌≡◌, ◌∙◌, ℕ, zero, suc, List, [], ◌∷◌, Some, refl, sym, ap}
use Rattle.std.specs.Prelude.{Ok, slice_get}
use Rattle.std.specs.List.{AllZip}
use Rattle.std.proofs.lemmas.Option.{none-some, same_Some}
use Rattle.desc_types.specs.Descriptions.{DescOf}
use Rattle.row_codec.specs.Bodies.{IsBody, body_bytes, read_body}
use Rattle.row_codec.proofs.BodyLemmas.{bodies_law}
use Rattle.view_meaning.specs.declared.journal.Entry.{Entry}
use Rattle.depot_recovery.specs.Depots.{body_of, entry_bodies}
use Rattle.depot_recovery.specs.Images.{IsWritable}

-- some bytes are the body of the entry at a place
pub record StandsAt (entries : List Entry) (lengths : List ℕ) (place : ℕ) (bytes : List ℕ)
    : Type 0 where
  pub next : Entry
  pub len : ℕ
  pub there : slice_get entries place ≡ Some next
  pub stated : slice_get lengths place ≡ Some len
  pub spelled : bytes ≡ body_bytes (body_of next len)
  pub is : IsBody (body_of next len)

-- each body after the first is that of an entry
pub StandsAt-bodies : (desc : DescOf) (entries : List Entry) (lengths : List ℕ) (place : ℕ)
    (bytes : List ℕ) → AllZip (IsWritable desc) entries lengths
    → slice_get (entry_bodies entries lengths) place ≡ Some bytes
    → StandsAt entries lengths place bytes
StandsAt-bodies desc [] [] place bytes all there = absurd (none-some bytes there)
StandsAt-bodies desc [] (len ∷ lengths) place bytes all there = absurd all
StandsAt-bodies desc (next ∷ later) [] place bytes all there = absurd all
StandsAt-bodies desc (next ∷ later) (len ∷ lengths) zero bytes all there = record {
  next = next;
  len = len;
  there = refl;
  stated = refl;
  spelled = sym (same_Some (body_bytes (body_of next len)) bytes there);
  is = all.0.body;
}
StandsAt-bodies desc (next ∷ later) (len ∷ lengths) (suc place) bytes all there =
    let rest = StandsAt-bodies desc later lengths place bytes all.1 there in record {
      next = rest.next;
      len = rest.len;
      there = rest.there;
      stated = rest.stated;
      spelled = rest.spelled;
      is = rest.is;
    }

-- it is read as that of the entry, and as nothing else
pub StandsAt-read : (entries : List Entry) (lengths : List ℕ) (place : ℕ) (bytes : List ℕ)
    (stands : StandsAt entries lengths place bytes)
    → read_body bytes ≡ Ok (body_of stands.next stands.len)
StandsAt-read entries lengths place bytes stands =
    ap read_body stands.spelled ∙ bodies_law.again (body_of stands.next stands.len) stands.is
