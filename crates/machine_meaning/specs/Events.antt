-- What may happen to the state, event by event.
use Rattle.std.specs.Prelude.{ℕ, ◌≡◌, ◌≢◌, ◌<◌, ◌+◌, ◌==◌, List, [], ◌∷◌, ◌++◌, Option, None, Some}
use Rattle.std.specs.Prelude.{Any, All, IsSome, IsSomeAnd, filter, find, flat_map, length, map, not}
use Rattle.std.specs.Prelude.{false, slice_get, if◌then◌else◌}
use Rattle.desc_types.specs.declared.table.Key.{Key}
use Rattle.desc_types.specs.Deliveries.{DeliveryOf}
use Rattle.desc_types.specs.Descriptions.{DescOf}
use Rattle.view_meaning.specs.declared.journal.Entry.{Entry}
use Rattle.view_meaning.specs.declared.journal.Entry.TheVariants as entry
use Rattle.view_meaning.specs.declared.request.Item.{Item}
use Rattle.view_meaning.specs.Journal.{FitsEntry, FitsJournal}
use Rattle.view_meaning.specs.LegalJournals.{IsLegal, MayFollow}
use Rattle.view_meaning.specs.Partitions.{is_key}
use Rattle.view_meaning.specs.Shown.{keys_shown}
use Rattle.view_meaning.specs.Versions.{is_raw, version}
use Rattle.query_pin.specs.declared.input.Input.{Input}
use Rattle.query_pin.specs.Inputs.{is_version}
use Rattle.query_pin.specs.Kept.{KeptListOf, entry_in, newest_in}
use Rattle.query_pin.specs.Pins.{IsLeastFree, is_pinned, pin_at, with_pin, without_pin}
use Rattle.machine_meaning.specs.declared.claim.Claim.{Claim}
use Rattle.machine_meaning.specs.States.{IsGood, IsMadeBy, IsReady, State, latest, pin_of}

-- what may happen
pub data Event : Type 0 where
  -- a delivery is loaded
  Loads : (delivery : DeliveryOf) → Event
  -- somebody claims a partition
  Claims : (who : ℕ) (key : Key) → Event
  -- the partition of somebody's claim is installed, and the claim ends
  Installs : (who id : ℕ) → Event
  -- somebody's claim ends
  Abandons : (who id : ℕ) → Event
  -- somebody pins what a request is shown
  Pins : (who : ℕ) (items : List Item) → Event
  -- somebody's pin ends
  Unpins : (who id : ℕ) → Event
  -- a version is dropped
  Reclaims : (dead : Input) → Event
  -- all stops and starts anew, with the entry that was being written, or without it
  Stops : (last : Option Entry) → Event

-- the claim with an id, and the other claims
abbrev pub claim_at : (id : ℕ) → List Claim → Option Claim
claim_at id claims = find (λ (claim : Claim). claim.id == id) claims

abbrev pub other_claims : (id : ℕ) → List Claim → List Claim
other_claims id claims = filter (λ (claim : Claim). not (claim.id == id)) claims

-- a journal with one entry more
abbrev pub with_entry : List Entry → Entry → List Entry
with_entry journal next = journal ++ next ∷ []

-- the versions that a request is shown
abbrev pub asked : DescOf → List Entry → List Item → List Input
asked desc journal items = map (latest desc journal) (flat_map (keys_shown desc journal) items)

-- the version that an install after a journal makes
abbrev pub made : DescOf → List Entry → Key → Input
made desc journal key = record { key = key; version = version desc journal key + 1 }

-- one version more is held, with the entry that made it, and it is the newest of its partition
pub record HoldsAlso (old new : KeptListOf) (more : Input) (entry : ℕ) : Type 0 where
  pub entries : (read : Input) → entry_in new read
      ≡ (if is_version more read then Some entry else entry_in old read)
  pub newest : (key : Key) → newest_in new key
      ≡ (if is_key more.key key then more.version else newest_in old key)

-- one version is held no more
pub record HoldsBut (old new : KeptListOf) (dead : Input) : Type 0 where
  pub entries : (read : Input) → entry_in new read
      ≡ (if is_version dead read then None else entry_in old read)
  pub newest : (key : Key) → newest_in new key ≡ newest_in old key

-- a version is the latest one of a view's partition, and not the empty one
pub record IsLatest (desc : DescOf) (journal : List Entry) (read : Input) : Type 0 where
  pub view : is_raw (slice_get desc.tables read.key.table) ≡ false
  pub some : 0 < read.version
  pub last : read.version ≡ version desc journal read.key

-- just the latest versions of views' partitions are held, each with the entry that made it
pub record HoldsLatest (desc : DescOf) (journal : List Entry) (held : KeptListOf) : Type 0 where
  pub latest : (key : Key) → is_raw (slice_get desc.tables key.table) ≡ false
      → 0 < version desc journal key
      → IsSomeAnd (entry_in held (latest desc journal key))
      (IsMadeBy journal (latest desc journal key))
  pub others : (read : Input) → IsSome (entry_in held read) → IsLatest desc journal read
  pub newest : (key : Key) → is_raw (slice_get desc.tables key.table) ≡ false
      → newest_in held key ≡ version desc journal key

-- a delivery fits the description and its number is new
pub record MayLoad (desc : DescOf) (journal : List Entry) (delivery : DeliveryOf) : Type 0 where
  pub fits : FitsEntry desc (entry.Load delivery)
  pub fresh : MayFollow desc journal (entry.Load delivery)

-- a version is dead: it is held, it is not the latest, and nobody reads it
pub record IsDead (desc : DescOf) (state : State) (dead : Input) : Type 0 where
  pub held : IsSome (entry_in state.held dead)
  pub replaced : dead.version < version desc state.journal dead.key
  pub unread : is_pinned state.pins dead ≡ false

-- the claim that somebody makes of a partition, under an id
abbrev pub claim_of : State → (who id : ℕ) → Key → Claim
claim_of state who id key = record {
  who = who;
  id = id;
  key = key;
  at = length state.journal;
}

-- the state after a claim is made: what it reads is pinned under its id
abbrev pub claimed : DescOf → State → Claim → State
claimed desc old claim = record old {
  claims = old.claims ++ claim ∷ [];
  pins = with_pin claim.id (pin_of desc old.journal claim) old.pins;
}

-- the state after a claim has ended
abbrev pub ended : State → (id : ℕ) → State
ended old id = record old {
  claims = other_claims id old.claims;
  pins = without_pin id old.pins;
}

-- the state after the partition of a claim is installed, if these versions are held then
abbrev pub installed : State → Claim → KeptListOf → State
installed old claim held = record (ended old claim.id) {
  journal = with_entry old.journal (entry.Install claim.key claim.at);
  held = held;
}

-- the state after somebody pins versions under an id
abbrev pub pinned : State → (who id : ℕ) → List Input → State
pinned old who id versions =
    record old { pins = with_pin id (record { who = who; versions = versions }) old.pins }

-- the state that is found after a journal: nothing is claimed or pinned
abbrev pub found : List Entry → KeptListOf → State
found journal held = record { journal = journal; claims = []; pins = []; held = held }

-- the journal after a stop: it stays, or gains the entry that a load or an install was to add
abbrev pub IsLeft : DescOf → State → (last : Option Entry) → List Entry → Type 0
IsLeft desc old None journal = journal ≡ old.journal
IsLeft desc old (Some (entry.Load delivery)) journal = MayLoad desc old.journal delivery
    × (journal ≡ with_entry old.journal (entry.Load delivery))
IsLeft desc old (Some (entry.Install key at)) journal =
    Any (λ (claim : Claim). (claim.key ≡ key) × (claim.at ≡ at)) old.claims
    × (journal ≡ with_entry old.journal (entry.Install key at))

-- somebody's claim
pub record IsClaimOf (state : State) (who id : ℕ) (claim : Claim) : Type 0 where
  pub found : claim_at id state.claims ≡ Some claim
  pub own : claim.who ≡ who

-- somebody's pin: nothing that a claim reads
pub record IsPinOf (state : State) (who id : ℕ) : Type 0 where
  pub found : IsSomeAnd (pin_at state.pins id) (λ pin. pin.who ≡ who)
  pub unclaimed : All (λ (claim : Claim). claim.id ≢ id) state.claims

-- an event leads from one state to another
abbrev pub Step : DescOf → State → Event → State → Type 0
Step desc old (Loads delivery) new = MayLoad desc old.journal delivery
    × (new ≡ record old { journal = with_entry old.journal (entry.Load delivery) })
Step desc old (Claims who key) new = IsReady desc old key × ((id : ℕ) × IsLeastFree old.pins id
    × (new ≡ claimed desc old (claim_of old who id key)))
Step desc old (Installs who id) new = (claim : Claim) × IsClaimOf old who id claim
    × HoldsAlso old.held new.held (made desc old.journal claim.key) (length old.journal + 1)
    × (new ≡ installed old claim new.held)
Step desc old (Abandons who id) new = (claim : Claim) × IsClaimOf old who id claim
    × (new ≡ ended old id)
Step desc old (Pins who items) new = (id : ℕ) × IsLeastFree old.pins id
    × (new ≡ pinned old who id (asked desc old.journal items))
Step desc old (Unpins who id) new = IsPinOf old who id
    × (new ≡ record old { pins = without_pin id old.pins })
Step desc old (Reclaims dead) new = IsDead desc old dead × HoldsBut old.held new.held dead
    × (new ≡ record old { held = new.held })
Step desc old (Stops last) new = IsLeft desc old last new.journal
    × HoldsLatest desc new.journal new.held × (new ≡ found new.journal new.held)

-- events lead from one state to another, one by one
abbrev pub Run : DescOf → State → List Event → State → Type 0
Run desc old [] new = new ≡ old
Run desc old (event ∷ later) new = (mid : State) × Step desc old event mid × Run desc mid later new

-- the state that is found after a legal journal is good
abbrev pub HasGoodStarts : Type 0
HasGoodStarts = (desc : DescOf) (journal : List Entry) (held : KeptListOf)
    → FitsJournal desc journal → IsLegal desc journal → HoldsLatest desc journal held
    → IsGood desc (found journal held)

-- an event leads from a good state to a good one
abbrev pub HasGoodSteps : Type 0
HasGoodSteps = (desc : DescOf) (old new : State) (event : Event) → IsGood desc old
    → Step desc old event new → IsGood desc new

-- so do events one by one
abbrev pub HasGoodRuns : Type 0
HasGoodRuns = (desc : DescOf) (old new : State) (events : List Event) → IsGood desc old
    → Run desc old events new → IsGood desc new
