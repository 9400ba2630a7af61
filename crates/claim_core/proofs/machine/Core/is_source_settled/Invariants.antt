-- All are settled exactly if those that are left are, which are partitions.
use Rattle.std.proofs.Common.{◌≡◌, true}
use Rattle.std.specs.Prelude.{All}
use Rattle.std.specs.List.{list_all}
use Rattle.view_meaning.specs.Partitions.{is_part}
use Rattle.view_meaning.specs.Staleness.{is_settled}
use Rattle.claim_core.proofs.ReadingLemmas.{keys_from}
use Rattle.claim_core.proofs.machine.Core.is_source_settled.Given as goal

abbrev pub invariant-loop-part : goal.invariant-loop-part
invariant-loop-part l = record {
  whole : list_all (is_settled l.self.desc l.self.state.journal)
      (keys_from l.src.table l.initial.part l.part-end)
      ≡ list_all (is_settled l.self.desc l.self.state.journal)
      (keys_from l.src.table l.part l.part-end);
  parts : All (λ key. is_part l.self.desc key ≡ true) (keys_from l.src.table l.part l.part-end);
}
