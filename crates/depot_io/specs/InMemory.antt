-- The sources and the sink in memory: what they keep, and what a call does to it.
use Rattle.std.specs.Prelude.{◌≡◌, ℕ, ◌-◌, ◌<◌, ◌⊎◌, ◌↔◌, min, List, [], ◌∷◌, ◌++◌, length}
use Rattle.std.specs.Prelude.{drop, Contains, Result, Ok, Err, IsErr, IfOk, None, Some}
use Rattle.std.specs.declared.option.Option.{Option}
use Rattle.depot_io.specs.Causes.{next_count}

-- a source: what it has left, which calls fail, and how many calls and faults there were
pub record SourceState : Type 0 where
  pub left : List ℕ
  pub fails : List ℕ
  pub calls : ℕ
  pub faults : ℕ

-- a sink: what it got, how many bytes it has room for, which calls fail, and how many calls and
-- faults there were
pub record SinkState : Type 0 where
  pub got : List ℕ
  pub room : ℕ
  pub fails : List ℕ
  pub calls : ℕ
  pub faults : ℕ

-- a source after a call: each call counts, and a refusal is one fault more
abbrev pub source_after : {E : Type 0} → SourceState → Result ℕ E → SourceState
source_after old (Ok count) = record old {
  left = drop count old.left;
  calls = next_count old.calls;
}
source_after old (Err _) = record old {
  calls = next_count old.calls;
  faults = next_count old.faults;
}

-- a take fails exactly at a listed call, and otherwise gives as much as there is and fits
pub record TakesListed {E : Type 0} (old new : SourceState) (room : ℕ) (result : Result ℕ E)
    : Type 0 where
  pub failed : IsErr result ↔ Contains old.fails (next_count old.calls)
  pub count : IfOk result (λ count. count ≡ min room (length old.left))
  pub after : new ≡ source_after old result

-- a sink after a call: each call counts, and a refusal is one fault more
abbrev pub sink_after : {E : Type 0} → SinkState → List ℕ → Result ℕ E → SinkState
sink_after old bytes (Ok _) = record old {
  got = old.got ++ bytes;
  room = old.room - length bytes;
  calls = next_count old.calls;
}
sink_after old bytes (Err _) = record old {
  calls = next_count old.calls;
  faults = next_count old.faults;
}

-- a put fails exactly at a listed call or past the room, and otherwise takes all of the bytes
pub record PutsListed {E : Type 0} (old new : SinkState) (bytes : List ℕ) (result : Result ℕ E)
    : Type 0 where
  pub failed : IsErr result ↔ (Contains old.fails (next_count old.calls) ⊎ old.room < length bytes)
  pub whole : IfOk result (λ count. count ≡ length bytes)
  pub after : new ≡ sink_after old bytes result

-- the room that a sink tells: none if a failure is listed
abbrev pub told_room : List ℕ → ℕ → Option ℕ
told_room [] room = Some room
told_room (_ ∷ _) room = None
