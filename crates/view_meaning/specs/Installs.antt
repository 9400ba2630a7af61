-- What the installs of a legal journal made.
use Rattle.std.specs.Prelude.{ℕ, suc, ◌<◌, ◌≡◌, List, length, take}
use Rattle.desc_types.specs.declared.table.Key.{Key}
use Rattle.desc_types.specs.Descriptions.{DescOf}
use Rattle.desc_types.specs.Sources.{HasEarlierSources}
use Rattle.view_meaning.specs.declared.journal.Entry.{Entry}
use Rattle.view_meaning.specs.Journal.{accepted}
use Rattle.view_meaning.specs.Versions.{install_places, nth_place}
use Rattle.view_meaning.specs.Values.{value}
use Rattle.view_meaning.specs.LegalJournals.{IsLegal}
use Rattle.view_meaning.specs.Contents.{content}

-- in a legal journal the version that an install made holds the value from scratch over the
-- deliveries up to its place
abbrev pub HasInstallValues : Type 0
HasInstallValues = (desc : DescOf) (journal : List Entry) (key : Key) (number : ℕ)
    → HasEarlierSources desc → IsLegal desc journal
    → number < length (install_places journal key)
    → content desc journal key (suc number)
    ≡ value desc (accepted (take (nth_place journal key number) journal)) key
