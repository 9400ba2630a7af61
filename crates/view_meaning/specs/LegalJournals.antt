-- Which journals can come about: no number is loaded again, and a partition is installed only if it
-- was stale and its sources were settled.
use Rattle.std.specs.Prelude.{ℕ, ◌≤◌, ◌≡◌, List, [], ◌∷◌, ◌++◌, true, false, ⊤, length, take, drop}
use Rattle.std.specs.List.{list_all, list_any}
use Rattle.desc_types.specs.declared.table.Key.{Key}
use Rattle.desc_types.specs.Descriptions.{DescOf}
use Rattle.view_meaning.specs.declared.journal.Entry.{Entry}
use Rattle.view_meaning.specs.declared.journal.Entry.TheVariants as entry
use Rattle.view_meaning.specs.Partitions.{is_part, sources_of}
use Rattle.view_meaning.specs.Journal.{is_repeat}
use Rattle.view_meaning.specs.Versions.{installs}
use Rattle.view_meaning.specs.Staleness.{is_stale, is_settled}

-- a partition may be installed after a journal, with the place of one of its entries: it shares a
-- tick with time, after that entry it was stale and its sources were settled, and it was not
-- installed since
pub record MayInstall (desc : DescOf) (journal : List Entry) (key : Key) (at : ℕ) : Type 0 where
  pub part : is_part desc key ≡ true
  pub past : at ≤ length journal
  pub stale : is_stale desc (take at journal) key ≡ true
  pub ready : list_all (is_settled desc (take at journal)) (sources_of desc key) ≡ true
  pub alone : list_any (installs key) (drop at journal) ≡ false

-- an entry may follow a journal
abbrev pub MayFollow : DescOf → List Entry → Entry → Type 0
MayFollow desc journal (entry.Load delivery) = is_repeat journal delivery ≡ false
MayFollow desc journal (entry.Install key at) = MayInstall desc journal key at

-- entries may follow a journal one by one
abbrev pub MayAllFollow : DescOf → (journal entries : List Entry) → Type 0
MayAllFollow desc journal [] = ⊤
MayAllFollow desc journal (next ∷ later) =
    MayFollow desc journal next × MayAllFollow desc (journal ++ next ∷ []) later

-- a journal is legal: each of its entries may follow those before it
abbrev pub IsLegal : DescOf → List Entry → Type 0
IsLegal desc journal = MayAllFollow desc [] journal
