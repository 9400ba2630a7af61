-- What held versions are, and that what a version is stays as it is.
use Rattle.std.specs.Prelude.{ℕ, ◌≡◌, ◌≤◌, ◌<◌, ◌-◌, List, ◌++◌, Any, IsSomeAnd, Some, length, take}
use Rattle.std.specs.Prelude.{slice_get}
use Rattle.desc_types.specs.declared.table.Key.{Key}
use Rattle.desc_types.specs.Descriptions.{DescOf}
use Rattle.desc_types.specs.Sources.{HasEarlierSources}
use Rattle.view_meaning.specs.declared.journal.Entry.{Entry}
use Rattle.view_meaning.specs.Contents.{content}
use Rattle.view_meaning.specs.Journal.{accepted}
use Rattle.view_meaning.specs.LegalJournals.{IsLegal}
use Rattle.view_meaning.specs.RawBelow.{raw_below}
use Rattle.view_meaning.specs.Values.{value}
use Rattle.view_meaning.specs.Versions.{install_places, nth_place, place_of, version}
use Rattle.query_pin.specs.declared.input.Input.{Input}
use Rattle.query_pin.specs.Kept.{entry_in}
use Rattle.machine_meaning.specs.States.{IsGood, State}

-- the content of a version stays as it is while a legal journal goes on
abbrev pub HasStableContents : Type 0
HasStableContents = (desc : DescOf) (journal more : List Entry) (key : Key) (number : ℕ)
    → IsLegal desc (journal ++ more) → number ≤ version desc journal key
    → content desc (journal ++ more) key number ≡ content desc journal key number

-- in a good state the content of a held version is its view's value from scratch over the
-- deliveries up to the place of the install that made it
abbrev pub HasHeldValues : Type 0
HasHeldValues = (desc : DescOf) (state : State) (read : Input) (entry : ℕ)
    → HasEarlierSources desc → IsGood desc state → entry_in state.held read ≡ Some entry
    → IsSomeAnd (slice_get state.journal (entry - 1)) (λ install.
    content desc state.journal read.key read.version
    ≡ value desc (accepted (take (place_of install) state.journal)) read.key)

-- between the places of two installs of a partition a raw partition below it gains rows
abbrev pub HasLoadsBetween : Type 0
HasLoadsBetween = (desc : DescOf) (journal : List Entry) (key : Key) (first second : ℕ)
    → HasEarlierSources desc → IsLegal desc journal
    → first < second → second < length (install_places journal key)
    → Any (λ raw. version desc (take (nth_place journal key first) journal) raw
    < version desc (take (nth_place journal key second) journal) raw) (raw_below desc key)
