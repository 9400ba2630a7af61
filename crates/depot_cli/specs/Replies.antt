-- What is written in reply to the items of a script.
use Rattle.std.specs.Prelude.{ℕ, ◌+◌, ◌-◌, List, [], ◌∷◌, ◌++◌, Bool, true, false, if◌then◌else◌, length}
use Rattle.std.specs.Prelude.{flat_map}
use Rattle.std.specs.List.{list_any}
use Rattle.desc_types.specs.Deliveries.{DeliveryOf}
use Rattle.desc_types.specs.Descriptions.{DescOf}
use Rattle.view_meaning.specs.declared.journal.Entry.{Entry}
use Rattle.view_meaning.specs.Journal.{accepted, is_repeat}
use Rattle.view_meaning.specs.Loading.{loaded}
use Rattle.view_meaning.specs.SetAside.{asides}
use Rattle.view_meaning.specs.Shown.{marks_shown, shown}
use Rattle.machine_meaning.specs.VersionCounts.{versions_replaced}
use Rattle.depot_cli.specs.declared.script.work.Work.{Work}
use Rattle.depot_cli.specs.declared.script.work.Work.TheVariants as work
use Rattle.depot_cli.specs.SerialJournal.{Made, after, journal_after}
use Rattle.depot_script.specs.Names.{feed_name}
use Rattle.depot_script.specs.Texts.{asides_text, drained_text, loaded_text, marks_text}
use Rattle.depot_script.specs.Texts.{reclaimed_text, refused_text, repeat_text}
use Rattle.depot_cli.specs.Items.{refusal_record, refusal_text}
use Rattle.depot_cli.specs.Answers.{whole_answer}

-- the reply to a delivery
abbrev pub load_reply : DescOf → List Entry → DeliveryOf → List ℕ
load_reply desc journal delivery =
    if is_repeat journal delivery then repeat_text (feed_name desc delivery.feed) delivery.number
    else loaded_text (feed_name desc delivery.feed) delivery.number (loaded desc journal delivery)

-- the reply to the item of a line, after what was made before it. `reclaim` tells how many versions
-- were replaced and not dropped before
abbrev pub reply : DescOf → (line : ℕ) → Made → Work → List ℕ
reply desc line made work.Nothing = []
reply desc line made (work.Refused refusal) =
    refused_text line (refusal_record refusal) (refusal_text refusal)
reply desc line made (work.Load delivery) = load_reply desc made.journal delivery
reply desc line made work.Drain =
    drained_text (length (journal_after desc made.journal work.Drain))
reply desc line made (work.Query items) =
    whole_answer desc (length made.journal) (flat_map (shown desc made.journal) items)
reply desc line made (work.Marks items) =
    marks_text desc (length made.journal) (flat_map (marks_shown desc made.journal) items)
reply desc line made (work.Aside feed) =
    asides_text desc feed (length made.journal) (asides desc (accepted made.journal) feed)
reply desc line made work.Reclaim =
    reclaimed_text (versions_replaced made.journal - made.reclaimed) (length made.journal)

-- the replies to items, one a line from this line on, each after what those before it made
abbrev pub replies : DescOf → (line : ℕ) → Made → List Work → List ℕ
replies desc line made [] = []
replies desc line made (item ∷ items) =
    reply desc line made item ++ replies desc (line + 1) (after desc made item) items

-- whether an item is refused
abbrev pub is_refused : Work → Bool
is_refused work.Nothing = false
is_refused (work.Refused _) = true
is_refused (work.Load _) = false
is_refused work.Drain = false
is_refused (work.Query _) = false
is_refused (work.Marks _) = false
is_refused (work.Aside _) = false
is_refused work.Reclaim = false

-- whether a `refused` reply is among those to the items
abbrev pub has_refused : List Work → Bool
has_refused items = list_any is_refused items
