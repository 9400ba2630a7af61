-- An entry that may follow a journal passes the test of that (`may_follow`).
use Rattle.std.proofs.Common.{◌≡◌, ◌&&◌, true, not, ℕ, List, drop, length, nat_le, take}
use Rattle.std.specs.List.{list_all, list_any}
use Rattle.std.proofs.lemmas.Bool.{and_from, le-leb}
use Rattle.std.proofs.lemmas.Bool.{not_from_false}
use Rattle.desc_types.specs.declared.table.Key.{Key}
use Rattle.desc_types.specs.Descriptions.{DescOf}
use Rattle.view_meaning.specs.declared.journal.Entry.{Entry}
use Rattle.view_meaning.specs.declared.journal.Entry.TheVariants as entry
use Rattle.view_meaning.specs.Journal.{is_repeat}
use Rattle.view_meaning.specs.LegalJournals.{MayFollow, MayInstall}
use Rattle.view_meaning.specs.Partitions.{is_part, sources_of}
use Rattle.view_meaning.specs.Staleness.{is_settled, is_stale}
use Rattle.view_meaning.specs.Versions.{installs}
use Rattle.depot_recovery.specs.Claims.{may_claim, may_follow}

-- a partition may be claimed after a journal: what the test of that asks
pub record MayClaim (desc : DescOf) (journal : List Entry) (key : Key) : Type 0 where
  pub part : is_part desc key ≡ true
  pub stale : is_stale desc journal key ≡ true
  pub ready : list_all (is_settled desc journal) (sources_of desc key) ≡ true

-- it passes if all that is so
pub may_claim-MayClaim : (desc : DescOf) (journal : List Entry) (key : Key)
    → MayClaim desc journal key → may_claim desc journal key ≡ true
may_claim-MayClaim desc journal key may =
    and_from (is_part desc key && is_stale desc journal key)
    (list_all (is_settled desc journal) (sources_of desc key))
    (and_from (is_part desc key) (is_stale desc journal key) may.part may.stale)
    may.ready

-- an install that may follow passes
may_follow-MayInstall : (desc : DescOf) (journal : List Entry) (key : Key) (at : ℕ)
    → MayInstall desc journal key at → may_follow desc journal (entry.Install key at) ≡ true
may_follow-MayInstall desc journal key at may =
    let claimed = may_claim-MayClaim desc (take at journal) key
    (record { part = may.part; stale = may.stale; ready = may.ready }) in
    and_from (nat_le at (length journal) && may_claim desc (take at journal) key)
    (not (list_any (installs key) (drop at journal)))
    (and_from (nat_le at (length journal)) (may_claim desc (take at journal) key)
    (le-leb at (length journal) may.past) claimed)
    (not_from_false (list_any (installs key) (drop at journal)) may.alone)

-- an entry that may follow a journal passes
pub may_follow-MayFollow : (desc : DescOf) (journal : List Entry) (next : Entry)
    → MayFollow desc journal next → may_follow desc journal next ≡ true
may_follow-MayFollow desc journal (entry.Load delivery) may =
    not_from_false (is_repeat journal delivery) may
may_follow-MayFollow desc journal (entry.Install key at) may =
    may_follow-MayInstall desc journal key at may
