-- The core of the machine: its state, and the room that it has.
use Rattle.std.specs.Prelude.{ℕ, ◌≡◌, ◌<◌, List, [], ◌∷◌, Result, Ok, Err, Option, None, Some}
use Rattle.std.specs.Prelude.{IfSome, IsSomeAnd, ◌-◌, ◌≤◌, if◌then◌else◌}
use Rattle.std.specs.Prelude.{Bool, filter, flat_map, length, map, slice_get, take, true, false}
use Rattle.std.specs.Ordering.{is_gt}
use Rattle.desc_types.specs.declared.table.Key.{Key}
use Rattle.desc_types.specs.declared.view.Src.{Src}
use Rattle.desc_types.specs.Deliveries.{DeliveryOf}
use Rattle.desc_types.specs.Descriptions.{DescOf}
use Rattle.desc_types.specs.Keys.{key_cmp}
use Rattle.desc_types.specs.Sources.{kind_sources}
use Rattle.desc_types.specs.Tables.{TableOf}
use Rattle.view_meaning.specs.declared.journal.Entry.{Entry}
use Rattle.view_meaning.specs.declared.request.Item.{Item}
use Rattle.view_meaning.specs.declared.request.PinItem.{PinItem}
use Rattle.view_meaning.specs.Journal.{FitsDelivery, accepted, delivery_of, is_repeat, is_same}
use Rattle.view_meaning.specs.Partitions.{is_among, is_key, keys_read}
use Rattle.view_meaning.specs.Shown.{keys_shown, shown_part}
use Rattle.query_pin.specs.declared.dead.Dead.{Dead}
use Rattle.query_pin.specs.declared.input.Input.{Input}
use Rattle.query_pin.specs.Held.{version_of}
use Rattle.query_pin.specs.Inputs.{is_version}
use Rattle.query_pin.specs.Kept.{HasRoomFor, IsFrom, KeptListOf, SameKept, entry_in, newest_in}
use Rattle.query_pin.specs.Pins.{IsLeastFree, PinOf, PinnedOf}
use Rattle.depot_marks.specs.MarkBooks.{HasRoom as HasMarkRoom, MarkBookOf, TellsMarks}
use Rattle.raw_load.specs.Books.{LoadOf, TellsRaw, deliveries_of}
use Rattle.raw_load.specs.declared.prepared.LoadFault.{LoadFault}
use Rattle.raw_load.specs.declared.prepared.LoadFault.TheVariants.{Repeat, Memory}
use Rattle.raw_load.specs.Preparing.{PreparedOf}
use Rattle.raw_load.specs.Ready.{IsPrepared, RawStateOf}
use Rattle.stale_test.specs.Books.{HasInstallPlaces, HasPlaces, IsReadyFor, StaleBookOf, TellsStale}
use Rattle.machine_meaning.specs.declared.claim.Claim.{Claim}
use Rattle.machine_meaning.specs.Events.{Event, HoldsLatest, IsDead, Step, claim_at, found}
use Rattle.machine_meaning.specs.States.{IsGood, IsReady, State, inputs, is_some_version, latest}
use Rattle.claim_core.specs.JournalView.{AreSteps, entries_of, places_of}
use Rattle.claim_core.specs.declared.step.Step.{Step as StepOf}
use Rattle.claim_core.specs.declared.ticket.ClaimFault.{ClaimFault}
use Rattle.claim_core.specs.declared.ticket.ClaimFault.TheVariants as fault

-- what a claim is told
pub record TicketOf : Type 0 where
  pub id : ℕ
  pub key : Key
  pub at : ℕ
  pub inputs : List Input
  pub left : ℕ

-- the versions that a partition of a table reads of some sources after a journal, without empty ones
abbrev pub inputs_read : DescOf → List Entry → (width part : ℕ) → List Src → List Input
inputs_read desc journal width part sources = filter is_some_version
    (map (latest desc journal) (flat_map (keys_read desc width part) sources))

-- the versions that such a partition reads of its left source, or of the only one
abbrev pub left_read : DescOf → List Entry → (part : ℕ) → Option TableOf → List Input
left_read desc journal part None = []
left_read desc journal part (Some table) =
    inputs_read desc journal table.width part (take 1 (kind_sources table.kind))

-- those that are read to compute a partition
abbrev pub left_inputs : DescOf → List Entry → Key → List Input
left_inputs desc journal key = left_read desc journal key.part (slice_get desc.tables key.table)

-- a core: the description that it serves, the state of the machine, and the books that have room
pub record CoreOf : Type 0 where
  pub desc : DescOf
  pub state : State
  pub raw : RawStateOf
  pub marks : MarkBookOf
  pub stale : StaleBookOf
  pub spare : ℕ

-- a core as its parts make it
abbrev pub core_of : DescOf → RawStateOf → MarkBookOf → StaleBookOf → List (ℕ × PinOf) → KeptListOf
    → List Claim → List StepOf → (spare : ℕ) → CoreOf
core_of desc raw marks stale pins held claims steps spare = record {
  desc = desc;
  state = record {
    journal = entries_of steps (deliveries_of raw.told);
    claims = claims;
    pins = pins;
    held = held;
  };
  raw = raw;
  marks = marks;
  stale = stale;
  spare = spare;
}

-- the books tell what the journal says, each load with the place of its entry, and the state is good
pub record IsSound (core : CoreOf) (steps : List StepOf) : Type 0 where
  pub loads : AreSteps steps (deliveries_of core.raw.told)
  pub placed : map (λ (load : LoadOf). load.place) core.raw.told.loads ≡ places_of steps
  pub good : IsGood core.desc core.state
  pub raw : TellsRaw core.desc core.raw.told
  pub marks : TellsMarks core.desc (accepted core.state.journal) core.marks
  pub stale : TellsStale core.desc core.state.journal core.stale

-- an event led from one core to another: both serve one description, and the state is good
pub record Steps (old : CoreOf) (event : Event) (new : CoreOf) : Type 0 where
  pub desc : new.desc ≡ old.desc
  pub step : Step old.desc old.state event new.state
  pub good : IsGood new.desc new.state

-- a state is as it was: at most room was made
pub record SameState (old new : State) : Type 0 where
  pub journal : new.journal ≡ old.journal
  pub claims : new.claims ≡ old.claims
  pub pins : new.pins ≡ old.pins
  pub held : SameKept old.held new.held

-- a core serves what it served, and its state is as it was
pub record SameCore (old new : CoreOf) : Type 0 where
  pub desc : new.desc ≡ old.desc
  pub state : SameState old.state new.state

-- a core was made of a journal: nothing is claimed or pinned, and just the latest versions are held
pub record IsFound (desc : DescOf) (journal : List Entry) (core : CoreOf) : Type 0 where
  pub served : core.desc ≡ desc
  pub state : core.state ≡ found journal core.state.held
  pub held : HoldsLatest desc journal core.state.held
  pub good : IsGood desc core.state

-- beside its raw rows a core has room for a delivery that was prepared
pub record HasRoomBeside (core : CoreOf) (prepared : PreparedOf) : Type 0 where
  pub marks : HasMarkRoom prepared.delivery prepared.asides core.marks
  pub places : HasPlaces prepared.touched core.stale
  pub walked : IsReadyFor core.desc prepared.touched core.stale
  pub step : 0 < core.spare

-- beside its raw rows a core may have room that it had not, and its state is the same
pub record GainsRoom (old new : CoreOf) : Type 0 where
  pub desc : new.desc ≡ old.desc
  pub state : new.state ≡ old.state
  pub raw : new.raw ≡ old.raw

-- a delivery was prepared for a core as it is now: it fits, it may be loaded, and there is room
pub record IsReadyToLoad (core : CoreOf) (prepared : PreparedOf) : Type 0 where
  pub fits : FitsDelivery core.desc prepared.delivery
  pub raw : IsPrepared core.desc core.raw prepared
  pub beside : HasRoomBeside core prepared

-- a delivery is a repeat: the entry at a place, from 1, loaded one of its feed and number
pub record RepeatsAt (journal : List Entry) (delivery : DeliveryOf) (place : ℕ) : Type 0 where
  pub repeat : is_repeat journal delivery ≡ true
  pub some : 1 ≤ place
  pub there : IsSomeAnd (slice_get journal (place - 1)) (λ loaded.
      IsSomeAnd (delivery_of loaded) (λ other. is_same delivery other ≡ true))

-- a delivery is refused exactly if its feed has accepted its number, and the place of that entry
-- is told
abbrev pub IsLoadCause : {T : Type 0} → List Entry → DeliveryOf → Result T LoadFault → Type 0
IsLoadCause journal delivery (Ok _) = is_repeat journal delivery ≡ false
IsLoadCause journal delivery (Err (Repeat place)) = RepeatsAt journal delivery place
IsLoadCause journal delivery (Err Memory) = is_repeat journal delivery ≡ false

-- whether a partition is ready
abbrev pub TellsReady : DescOf → State → Key → Bool → Type 0
TellsReady desc state key true = IsReady desc state key
TellsReady desc state key false = IsReady desc state key → ⊥

-- a claim is refused exactly if its partition is not ready
abbrev pub IsClaimCause : {T : Type 0} → DescOf → State → Key → Result T ClaimFault → Type 0
IsClaimCause desc state key (Ok _) = IsReady desc state key
IsClaimCause desc state key (Err fault.NotReady) = IsReady desc state key → ⊥
IsClaimCause desc state key (Err fault.Memory) = IsReady desc state key

-- a partition is the first of a list from one on
pub record IsFirstKey (from : Key) (keys : List Key) (first : Key) : Type 0 where
  pub not_before : is_gt (key_cmp from first) ≡ false
  pub among : is_among keys first ≡ true
  pub least : (key : Key) → is_among keys key ≡ true → is_gt (key_cmp from key) ≡ false
      → is_gt (key_cmp first key) ≡ false

-- the first of a list from one on, if there is one
abbrev pub IsFirstFrom : (from : Key) → List Key → Option Key → Type 0
IsFirstFrom from keys None = (key : Key) → is_among keys key ≡ true
    → is_gt (key_cmp from key) ≡ false → ⊥
IsFirstFrom from keys (Some first) = IsFirstKey from keys first

-- the first partition from one on that is ready, if there is one
abbrev pub IsNextReady : DescOf → State → (from : Key) → Option Key → Type 0
IsNextReady desc state from None = (key : Key) → is_gt (key_cmp from key) ≡ false
    → IsReady desc state key → ⊥
IsNextReady desc state from (Some next) = IsReady desc state next
    × (is_gt (key_cmp from next) ≡ false)
    × ((key : Key) → is_gt (key_cmp from key) ≡ false → IsReady desc state key
    → is_gt (key_cmp next key) ≡ false)

-- what is told of a partition after a journal
abbrev pub shown_item : DescOf → List Entry → Key → PinItem
shown_item desc journal key = (shown_part desc journal key).item

-- what a pin answers: what is told of each partition that the request is shown, after the journal
abbrev pub items_of : DescOf → List Entry → List Item → List PinItem
items_of desc journal items =
    map (shown_item desc journal) (flat_map (keys_shown desc journal) items)

-- the version that an answer tells of
abbrev pub version_shown : PinItem → Input
version_shown item = record { key = item.key; version = item.version }

-- a pin was made: it has the least free id, the place, and what is told of each partition
pub record IsPinnedOf (desc : DescOf) (old : State) (asked : List Item)
    (pinned : PinnedOf) : Type 0 where
  pub id : IsLeastFree old.pins pinned.id
  pub place : pinned.place ≡ length old.journal
  pub items : pinned.items ≡ items_of desc old.journal asked

-- a version is the first of the dead ones from a partition on
pub record IsFirstDead (desc : DescOf) (state : State) (from : Key) (first : Dead) : Type 0 where
  pub entry : entry_in state.held (version_of first) ≡ Some first.entry
  pub dead : IsDead desc state (version_of first)
  pub not_before : is_gt (key_cmp from first.key) ≡ false
  pub least : (read : Input) → is_gt (key_cmp from read.key) ≡ false → IsDead desc state read
      → IsFrom (version_of first) read

-- the first dead version from a partition on, if there is one
abbrev pub IsNextDead : DescOf → State → (from : Key) → Option Dead → Type 0
IsNextDead desc state from None = (read : Input) → is_gt (key_cmp from read.key) ≡ false
    → IsDead desc state read → ⊥
IsNextDead desc state from (Some dead) = IsFirstDead desc state from dead

-- a claim was made: its ticket has the least free id, the partition, the place, and the versions that
-- it reads, of which so many are of the left source
pub record IsTicketOf (desc : DescOf) (old : State) (asked : Key) (ticket : TicketOf) : Type 0 where
  pub id : IsLeastFree old.pins ticket.id
  pub key : ticket.key ≡ asked
  pub at : ticket.at ≡ length old.journal
  pub inputs : ticket.inputs ≡ inputs desc old.journal asked
  pub left : ticket.left ≡ length (left_inputs desc old.journal asked)

-- there is room to install the partition of a claim
pub record HasInstallRoom (id : ℕ) (core : CoreOf) : Type 0 where
  pub step : 0 < core.spare
  pub places : IfSome (claim_at id core.state.claims)
      (λ claim. HasInstallPlaces claim.key core.stale)
  pub walked : IfSome (claim_at id core.state.claims)
      (λ claim. IsReadyFor core.desc (claim.key ∷ []) core.stale)
  pub held : IfSome (claim_at id core.state.claims)
      (λ claim. HasRoomFor claim.key core.state.held)

-- a version is held as the newest of its partition, and the one before it no longer
pub record HoldsInstead (old new : KeptListOf) (next : Dead) : Type 0 where
  pub entries : (read : Input) → entry_in new read
      ≡ (if is_version (version_of next) read then Some next.entry
      else if is_version (record { key = next.key; version = next.version - 1 }) read then None
      else entry_in old read)
  pub newest : (key : Key) → newest_in new key
      ≡ (if is_key next.key key then next.version else newest_in old key)
