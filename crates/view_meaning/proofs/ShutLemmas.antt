-- A settled partition stays as it is if no delivery that follows keeps a row in a raw partition
-- below it: `StaysSettled-shut`.
use Rattle.std.proofs.Common.{◌≡◌, ◌∙◌, ℕ, suc, ◌+◌, List, [], ◌∷◌, ◌++◌, get_or, refl, sym, ap}
use Rattle.std.proofs.Common.{subst}
use Rattle.std.specs.Prelude.{true, false, All, slice_get, if◌then◌else◌}
use Rattle.std.proofs.lemmas.List.{append-nil, append_assoc}
use Rattle.desc_types.specs.declared.table.Key.{Key}
use Rattle.desc_types.specs.Deliveries.{DeliveryOf}
use Rattle.desc_types.specs.Descriptions.{DescOf}
use Rattle.desc_types.specs.Sources.{HasEarlierSources}
use Rattle.view_meaning.specs.declared.journal.Entry.{Entry}
use Rattle.view_meaning.specs.Journal.{accepted}
use Rattle.view_meaning.specs.Versions.{touches, loads_after, raw_version, is_raw, version}
use Rattle.view_meaning.specs.Staleness.{is_settled}
use Rattle.view_meaning.specs.LegalJournals.{IsLegal}
use Rattle.view_meaning.specs.RawBelow.{raw_below}
use Rattle.view_meaning.specs.Stability.{IsShut, StaysSettled}
use Rattle.view_meaning.proofs.JournalLemmas.{accepted-append}
use Rattle.view_meaning.proofs.RawLemmas.{version-raw}
use Rattle.view_meaning.proofs.BelowLemmas.{raw_below_within-is_raw}
use Rattle.view_meaning.proofs.StabilityLemmas.{stable_settled}

-- a raw partition that is shut stays so after deliveries more
IsShut-append : (desc : DescOf) (accepted more : List DeliveryOf) (raw : Key)
    → IsShut desc accepted raw → IsShut desc (accepted ++ more) raw
IsShut-append desc accepted more raw shut later delivery =
    ap (λ (before : List DeliveryOf). touches desc raw before delivery)
    (append_assoc accepted more later)
    ∙ shut (more ++ later) delivery

-- the next delivery keeps no row in it
touches-shut : (desc : DescOf) (accepted : List DeliveryOf) (raw : Key) (delivery : DeliveryOf)
    → IsShut desc accepted raw → touches desc raw accepted delivery ≡ false
touches-shut desc accepted raw delivery shut =
    ap (λ (before : List DeliveryOf). touches desc raw before delivery) (sym (append-nil accepted))
    ∙ shut [] delivery

-- so no later one counts
loads_after-shut : (desc : DescOf) (raw : Key) (before more : List DeliveryOf)
    → IsShut desc before raw → loads_after desc raw before more ≡ 0
loads_after-shut desc raw before [] shut = refl
loads_after-shut desc raw before (delivery ∷ later) shut =
    rw (
      touches-shut desc before raw delivery shut,
      loads_after-shut desc raw (before ++ delivery ∷ []) later
          (IsShut-append desc before (delivery ∷ []) raw shut),
    ) refl

-- nor do deliveries after those that shut it
loads_after-append_shut : (desc : DescOf) (raw : Key) (before accepted more : List DeliveryOf)
    → IsShut desc (before ++ accepted) raw
    → loads_after desc raw before (accepted ++ more) ≡ loads_after desc raw before accepted
loads_after-append_shut desc raw before [] more shut =
    loads_after-shut desc raw before more
    (subst (λ (all : List DeliveryOf). IsShut desc all raw) (append-nil before) shut)
loads_after-append_shut desc raw before (delivery ∷ later) more shut =
    ap (λ (count : ℕ). (if touches desc raw before delivery then 1 else 0) + count)
    (loads_after-append_shut desc raw (before ++ delivery ∷ []) later more
    (subst (λ (all : List DeliveryOf). IsShut desc all raw)
    (sym (append_assoc before (delivery ∷ []) later)) shut))

-- it keeps its version
version-shut : (desc : DescOf) (journal more : List Entry) (raw : Key)
    → is_raw (slice_get desc.tables raw.table) ≡ true → IsShut desc (accepted journal) raw
    → version desc (journal ++ more) raw ≡ version desc journal raw
version-shut desc journal more raw is shut =
    version-raw desc (journal ++ more) raw is
    ∙ ap (λ (all : List DeliveryOf). raw_version desc all raw) (accepted-append journal more)
    ∙ loads_after-append_shut desc raw [] (accepted journal) (accepted more) shut
    ∙ sym (version-raw desc journal raw is)

-- a settled partition stays as it is if each raw partition below it is shut
pub StaysSettled-shut : (desc : DescOf) (journal more : List Entry) (key : Key)
    → HasEarlierSources desc → IsLegal desc (journal ++ more) → is_settled desc journal key ≡ true
    → All (IsShut desc (accepted journal)) (raw_below desc key)
    → StaysSettled desc journal (journal ++ more) key
StaysSettled-shut desc journal more key earlier legal settled shut =
    stable_settled desc journal more key earlier legal settled
    (λ index default within.
    version-shut desc journal more (get_or (raw_below desc key) index default)
    (raw_below_within-is_raw (suc key.table) desc key index default within)
    (shut index default within))
