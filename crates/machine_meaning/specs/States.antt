-- The state of the warehouse as its users see it: the journal, what is claimed, what is pinned, and
-- which versions of views' partitions are held.
use Rattle.std.specs.Prelude.{ℕ, ◌≡◌, ◌≢◌, ◌≤◌, ◌-◌, Bool, true, false, List, All, IfSome, IsSome}
use Rattle.std.specs.Prelude.{Some, filter, length, map, nat_lt, slice_get, take}
use Rattle.std.specs.List.{AllPairs, list_all}
use Rattle.desc_types.specs.declared.table.Key.{Key}
use Rattle.desc_types.specs.Descriptions.{DescOf}
use Rattle.view_meaning.specs.declared.journal.Entry.{Entry}
use Rattle.view_meaning.specs.Journal.{FitsJournal}
use Rattle.view_meaning.specs.LegalJournals.{IsLegal, MayInstall}
use Rattle.view_meaning.specs.Partitions.{is_part, sources_of}
use Rattle.view_meaning.specs.Staleness.{is_settled, is_stale}
use Rattle.view_meaning.specs.Versions.{install_places, installs, is_raw, version}
use Rattle.query_pin.specs.declared.input.Input.{Input}
use Rattle.query_pin.specs.Kept.{KeptListOf, entry_in, newest_in}
use Rattle.query_pin.specs.Pins.{AreInOrder, PinOf, pin_at}
use Rattle.machine_meaning.specs.declared.claim.Claim.{Claim}

-- the state: the journal; the claims in the order in which they were made; the pins by id, those of
-- claims among them; the held versions, each with the entry that made it
pub record State : Type 0 where
  pub journal : List Entry
  pub claims : List Claim
  pub pins : List (ℕ × PinOf)
  pub held : KeptListOf

-- the version of a partition after a journal
abbrev pub latest : DescOf → List Entry → Key → Input
latest desc journal key = record { key = key; version = version desc journal key }

-- whether a version is more than the empty one
abbrev pub is_some_version : Input → Bool
is_some_version read = nat_lt 0 read.version

-- the versions that are read to compute a partition after a journal: those of its sources, without
-- empty ones
abbrev pub inputs : DescOf → List Entry → Key → List Input
inputs desc journal key =
    filter is_some_version (map (latest desc journal) (sources_of desc key))

-- the versions that a claim reads: those that the sources had after the entries up to its place
abbrev pub reads : DescOf → List Entry → Claim → List Input
reads desc journal claim = inputs desc (take claim.at journal) claim.key

-- the pin that keeps what a claim reads
abbrev pub pin_of : DescOf → List Entry → Claim → PinOf
pin_of desc journal claim = record {
  who = claim.who;
  versions = reads desc journal claim;
}

-- a partition is ready to be claimed: it is stale, its sources are settled, and nobody claimed it
pub record IsReady (desc : DescOf) (state : State) (key : Key) : Type 0 where
  pub part : is_part desc key ≡ true
  pub stale : is_stale desc state.journal key ≡ true
  pub ready : list_all (is_settled desc state.journal) (sources_of desc key) ≡ true
  pub free : All (λ (claim : Claim). claim.key ≢ key) state.claims

-- an entry of a journal made a version: it is the install of the partition that many installs count
pub record IsMadeBy (journal : List Entry) (made : Input) (entry : ℕ) : Type 0 where
  pub some : 1 ≤ entry
  pub there : IfSome (slice_get journal (entry - 1)) (λ last. installs made.key last ≡ true)
  pub past : entry ≤ length journal
  pub number : length (install_places (take entry journal) made.key) ≡ made.version

-- a version may be held with an entry: it is of a view, and that entry made it
pub record MayBeHeld (desc : DescOf) (journal : List Entry) (held : Input) (entry : ℕ) : Type 0 where
  pub view : is_raw (slice_get desc.tables held.key.table) ≡ false
  pub made : IsMadeBy journal held entry

-- a version is at hand: it has come about, and if it is of a view, it is held or empty
pub record IsAtHand (desc : DescOf) (journal : List Entry) (held : KeptListOf)
    (read : Input) : Type 0 where
  pub known : read.version ≤ version desc journal read.key
  pub there : is_raw (slice_get desc.tables read.key.table) ≡ false → 1 ≤ read.version
      → IsSome (entry_in held read)

-- two claims have ids of their own, and are on different partitions
pub record AreApart (claim other : Claim) : Type 0 where
  pub ids : claim.id ≢ other.id
  pub keys : claim.key ≢ other.key

-- a claim may still be installed, and what it reads is pinned under its id
pub record IsGoodClaim (desc : DescOf) (state : State) (claim : Claim) : Type 0 where
  pub may : MayInstall desc state.journal claim.key claim.at
  pub pinned : pin_at state.pins claim.id ≡ Some (pin_of desc state.journal claim)

-- what is held is right: only what an install made, and each latest version
pub record HoldsRight (desc : DescOf) (state : State) : Type 0 where
  pub made : (read : Input)
      → IfSome (entry_in state.held read) (MayBeHeld desc state.journal read)
  pub current : (key : Key)
      → IsAtHand desc state.journal state.held (latest desc state.journal key)
  pub newest : (key : Key) → is_raw (slice_get desc.tables key.table) ≡ false
      → newest_in state.held key ≡ version desc state.journal key

-- the state is good: its journal fits and is legal, each claim may still be installed, what is held
-- is right, ids of pins differ, and each version that is pinned is at hand
pub record IsGood (desc : DescOf) (state : State) : Type 0 where
  pub fits : FitsJournal desc state.journal
  pub legal : IsLegal desc state.journal
  pub apart : AllPairs AreApart state.claims
  pub claims : All (IsGoodClaim desc state) state.claims
  pub held : HoldsRight desc state
  pub ordered : AreInOrder state.pins
  pub pinned : (id : ℕ) → IfSome (pin_at state.pins id)
      (λ pin. All (IsAtHand desc state.journal state.held) pin.versions)
