-- Each item of a pin may be read, and the items so far are all at the end.
use Rattle.std.proofs.Common.{◌∙◌, ap, subst, sym, All, List}
use Rattle.std.proofs.lemmas.List.Elements.{All-get_or}
use Rattle.view_meaning.specs.declared.request.PinItem.{PinItem}
use Rattle.query_pin.specs.Pins.{PinnedOf}
use Rattle.run_journal.specs.Pinning.{MayBeRead}
use Rattle.claim_core.specs.Cores.{version_shown}
use Rattle.depot_cli.proofs.ShownLemmas.{All-from_map}
use Rattle.depot_cli.proofs.reply.reading.pinned_text.Goals as goal

pub push_part-requires : goal.push_part-requires
push_part-requires c =
    let readable = MayBeRead c.args.journal.now in
    record {
      readable = All-get_or (λ (item : PinItem). readable (version_shown item))
          c.deref-item-items.result.now c.items.item-index _ c.items-test.true
          (subst (λ (items : List PinItem). All (λ (item : PinItem). readable (version_shown item))
          items)
          (sym (c.deref-item-items.ensures.value
          ∙ ap (λ (pinned : PinnedOf). pinned.items) c.pinned.view_is))
          (All-from_map readable version_shown c.args.pinned.now.items c.requires.readable));
    }
