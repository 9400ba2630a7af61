-- The reading of a journal, record by record: what a record tells, and what was read so far.
use Rattle.std.specs.Prelude.{◌≡◌, ◌+◌, ℕ, ⊤, List, [], ◌∷◌, ◌++◌, Option, None, Some, IfSome}
use Rattle.std.specs.Prelude.{Result, Ok, Err, Contains, length}
use Rattle.catalog_journal.specs.declared.fault.LogFault.{LogFault}
use Rattle.catalog_journal.specs.declared.fault.LogFault.TheVariants as fault
use Rattle.catalog_journal.specs.Catalog.{CATALOG_FILE, open_records}
use Rattle.claim_core.specs.Cores.{CoreOf, IsFound}
use Rattle.desc_types.specs.Accepted.{IsAccepted}
use Rattle.desc_types.specs.Descriptions.{DescOf}
use Rattle.depot_disk.specs.Image.{Image}
use Rattle.row_codec.specs.declared.body.Body.{Body}
use Rattle.row_codec.specs.Bodies.{body_bytes}
use Rattle.row_codec.specs.Deliveries.{IsDelivery}
use Rattle.table_desc.specs.Canonical.{canonical}
use Rattle.table_desc.specs.Described.{described}
use Rattle.view_meaning.specs.declared.journal.Entry.{Entry}
use Rattle.view_meaning.specs.declared.journal.Entry.TheVariants as entry
use Rattle.view_meaning.specs.Journal.{FitsEntry, delivery_of}
use Rattle.depot_recovery.specs.declared.claims.Claimed.{Claimed}
use Rattle.depot_recovery.specs.Depots.{DepotOf, bodies_of, body_of, first_body}
use Rattle.depot_recovery.specs.Found.{desc_in, if_canonical, len_of, lengths_in, next_entry}
use Rattle.depot_recovery.specs.Images.{IsDepot, IsWritable}
use Rattle.depot_recovery.specs.Noted.{AreNoted, ClaimsOf}
use Rattle.depot_recovery.specs.Recovered.{Refuses}

-- the body of record 0 is that of a description, or of none
abbrev pub TellsDesc : List ℕ → Option DescOf → Type 0
TellsDesc bytes (Some desc) = IsAccepted desc × (bytes ≡ first_body desc) × (desc_in bytes ≡ Ok desc)
TellsDesc bytes None = desc_in bytes ≡ Err (fault.Damaged CATALOG_FILE 0)

-- the text after the head of record 0 is the canonical one of a description, or of none
abbrev pub TellsText : List ℕ → Option DescOf → Type 0
TellsText text (Some desc) = IsAccepted desc × (text ≡ canonical desc)
    × (if_canonical text (described text) ≡ Ok desc)
TellsText text None =
    if_canonical text (described text) ≡ Err (fault.Damaged CATALOG_FILE 0)

-- a body states an entry that fits the description
pub record StatesEntry (desc : DescOf) (stated : Body) (next : Entry) : Type 0 where
  pub same : stated ≡ body_of next (len_of stated)
  pub fits : FitsEntry desc next
  pub delivery : IfSome (delivery_of next) (IsDelivery desc)

-- the depot whose journal the bodies of a catalogue tell, and a core has
abbrev pub depot_by : (bodies : List (List ℕ)) → CoreOf → DepotOf
depot_by bodies core = record {
  desc = core.desc;
  entries = core.state.journal;
  lengths = lengths_in bodies;
}

-- a core has the journal that these bodies tell
pub record IsReplayOf (bodies : List (List ℕ)) (core : CoreOf) : Type 0 where
  pub made : IsDepot (depot_by bodies core)
  pub spelled : bodies ≡ bodies_of (depot_by bodies core)
  pub found : IsFound core.desc core.state.journal core

-- the reading of a journal: the core so far, the claims of all installs, and the place of the next
-- gate
pub record ReplayOf : Type 0 where
  pub core : CoreOf
  pub claims : ClaimsOf
  pub gate : ℕ

-- the first records were read, whose bodies these are
pub record HasRead (bodies : List (List ℕ)) (replay : ReplayOf) : Type 0 where
  pub core : IsReplayOf bodies replay.core
  pub noted : AreNoted replay.core.desc replay.core.state.journal replay.claims
  pub gate : replay.gate ≡ length (open_records bodies)

-- record 0 was read, or it is no one's description
abbrev pub BeginsAs : List ℕ → Result ReplayOf LogFault → Type 0
BeginsAs first (Ok replay) =
    HasRead (first ∷ []) replay × (desc_in first ≡ Ok replay.core.desc)
BeginsAs first (Err (fault.Damaged file place)) = desc_in first ≡ Err (fault.Damaged file place)
BeginsAs first (Err fault.Memory) = ⊤
BeginsAs first (Err fault.DiskFault) = ⊥
BeginsAs first (Err fault.NotFound) = ⊥
BeginsAs first (Err fault.Exists) = ⊥

-- one entry more was read, which these bytes state
pub record ReadsMore (bytes : List ℕ) (old new : ReplayOf) : Type 0 where
  pub next : Entry
  pub len : ℕ
  pub stated : bytes ≡ body_bytes (body_of next len)
  pub writable : IsWritable old.core.desc next len
  pub desc : new.core.desc ≡ old.core.desc
  pub journal : new.core.state.journal ≡ old.core.state.journal ++ next ∷ []
  pub found : IsFound new.core.desc new.core.state.journal new.core
  pub claims : new.claims.claims ≡ old.claims.claims
  pub noted : AreNoted new.core.desc new.core.state.journal new.claims
  pub gate : new.gate ≡ old.gate + (5 + length bytes)

-- it is the next entry in an image; or a fault was found there
abbrev pub ReadsNext : {T : Type 0} → Image → List ℕ → (old new : ReplayOf) → Result T LogFault
    → Type 0
ReadsNext image bytes old new (Ok _) = (next : Entry)
    × (next_entry old.core.desc image old.core.state.journal old.gate bytes ≡ Ok next)
    × (new.core.state.journal ≡ old.core.state.journal ++ next ∷ [])
ReadsNext image bytes old new (Err fault) =
    Refuses (next_entry old.core.desc image old.core.state.journal old.gate bytes) fault

-- the claim of an entry, if it is an install, is listed
abbrev pub IsListed : List Claimed → Entry → Type 0
IsListed claims (entry.Load delivery) = ⊤
IsListed claims (entry.Install key at) = Contains claims (record { at = at; key = key })
