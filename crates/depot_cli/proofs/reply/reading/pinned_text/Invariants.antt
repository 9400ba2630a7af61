-- The first line stands there, and then the partitions so far.
use Rattle.std.proofs.Common.{◌≡◌, ◌++◌, length, map, take}
use Rattle.std.specs.Prelude.{flat_map}
use Rattle.depot_script.specs.Texts.{answer_text}
use Rattle.run_journal.specs.KeptJournals.{entries_of}
use Rattle.depot_cli.specs.Answers.{pinned_part, shown_text}
use Rattle.depot_cli.proofs.reply.reading.pinned_text.Given as goal

abbrev pub invariant-items : goal.invariant-items
invariant-items l = l.text.items
    ≡ answer_text l.pinned.place (length l.pinned.items)
    ++ flat_map (shown_text l.journal.core.desc)
    (map (pinned_part l.journal.core.desc (entries_of l.journal))
    (take l.item-index l.pinned.items))
