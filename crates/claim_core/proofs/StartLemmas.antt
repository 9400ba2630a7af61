-- The core of no entries is sound (`IsSound-start`), and what it holds are the latest versions.
use Rattle.std.proofs.Common.{◌≡◌, ◌∙◌, arith, refl, sym}
use Rattle.std.specs.Prelude.{None, [], false, slice_get}
use Rattle.std.proofs.lemmas.Bool.{false≢true}
use Rattle.desc_types.specs.declared.table.Key.{Key}
use Rattle.desc_types.specs.Descriptions.{DescOf}
use Rattle.view_meaning.specs.Versions.{is_raw, version}
use Rattle.depot_marks.specs.MarkBooks.{TellsMarks}
use Rattle.query_pin.specs.declared.input.Input.{Input}
use Rattle.query_pin.specs.Kept.{KeptListOf, entry_in, newest_in}
use Rattle.raw_load.specs.Books.{TellsRaw}
use Rattle.stale_test.specs.Books.{TellsStale}
use Rattle.machine_meaning.specs.Events.{HoldsLatest, found}
use Rattle.machine_meaning.proofs.GoodLemmas.{good_starts}
use Rattle.claim_core.specs.Cores.{CoreOf, IsSound}

-- a partition of a view has no version after no entries
version-nothing : (desc : DescOf) (key : Key) → is_raw (slice_get desc.tables key.table) ≡ false
    → version desc [] key ≡ 0
version-nothing desc key view = rw view refl

-- after no entries the latest versions are held if none is
pub HoldsLatest-nothing : (desc : DescOf) (held : KeptListOf)
    → ((read : Input) → entry_in held read ≡ None) → ((key : Key) → newest_in held key ≡ 0)
    → HoldsLatest desc [] held
HoldsLatest-nothing desc held empty newest = record {
  latest = λ key view some. absurd (omega (arith, some, version-nothing desc key view));
  others = λ read there. absurd (false≢true (rw (empty read) at there));
  newest = λ key view. newest key ∙ sym (version-nothing desc key view);
}

-- a core of no entries, with books of none, is sound
pub IsSound-start : (core : CoreOf) → core.state ≡ found [] core.state.held
    → core.raw.told.loads ≡ [] → HoldsLatest core.desc [] core.state.held
    → TellsRaw core.desc core.raw.told → TellsMarks core.desc [] core.marks
    → TellsStale core.desc [] core.stale → IsSound core []
IsSound-start core state loads holds raw marks stale = record {
  loads = record { loads = rw loads refl };
  placed = rw loads refl;
  good = rw state (good_starts core.desc [] core.state.held (λ index default within.
      absurd (omega arith)) tt holds);
  raw = raw;
  marks = rw state marks;
  stale = rw state stale;
}
