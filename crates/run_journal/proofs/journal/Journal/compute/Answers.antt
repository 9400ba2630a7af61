-- The versions of the left source come first, and those of the right one after them.
use Rattle.std.proofs.Common.{◌≡◌, ◌∙◌, ap, IfOk, List, refl, subst, sym}
use Rattle.std.specs.Prelude.{All, slice_get}
use Rattle.depot_cell.specs.declared.cell.Cell.{Cell}
use Rattle.raw_load.specs.Books.{rows_of}
use Rattle.view_eval.specs.Eval.{made_by}
use Rattle.machine_meaning.specs.States.{IsAtHand}
use Rattle.claim_core.specs.Cores.{TicketOf}
use Rattle.run_journal.specs.KeptJournals.{entries_of}
use Rattle.run_journal.proofs.ReadLemmas.{All-left, All-right, left-part, made_by-read}
use Rattle.run_journal.proofs.ReadLemmas.{right-part}
use Rattle.run_journal.proofs.journal.Journal.compute.Goals as goal

pub parts_of-requires-clause-hand : goal.parts_of-requires-clause-hand
parts_of-requires-clause-hand c =
    subst (All (IsAtHand c.args.self.now.core.desc (entries_of c.args.self.now)
    c.args.self.now.core.state.held))
    (sym (left-part c.args.self.now.core.desc (entries_of c.args.self.now) c.args.ticket.now.key
    c.deref.result.now c.split_at.result.0.now c.ticket.inside.left
    (c.deref.ensures.value ∙ ap (λ (ticket : TicketOf). ticket.inputs) c.ticket.view_is
    ∙ c.requires.inputs)
    (ap (λ (ticket : TicketOf). ticket.left) c.ticket.view_is ∙ c.requires.left) c.split_at.ensures.front))
    (All-left c.args.self.now.core.desc c.args.self.now.core.state c.args.ticket.now.key.part
    (slice_get c.args.self.now.core.desc.tables c.args.ticket.now.key.table) c.requires.good)

pub parts_of-requires-2-clause-hand : goal.parts_of-requires-2-clause-hand
parts_of-requires-2-clause-hand c =
    subst (All (IsAtHand c.args.self.now.core.desc (entries_of c.args.self.now)
    c.args.self.now.core.state.held))
    (sym (right-part c.args.self.now.core.desc (entries_of c.args.self.now) c.args.ticket.now.key
    c.deref.result.now c.split_at.result.1.now c.ticket.inside.left
    (c.deref.ensures.value ∙ ap (λ (ticket : TicketOf). ticket.inputs) c.ticket.view_is
    ∙ c.requires.inputs)
    (ap (λ (ticket : TicketOf). ticket.left) c.ticket.view_is ∙ c.requires.left) c.split_at.ensures.back))
    (All-right c.args.self.now.core.desc c.args.self.now.core.state c.args.ticket.now.key.part
    (slice_get c.args.self.now.core.desc.tables c.args.ticket.now.key.table) c.requires.good)

pub returns : goal.returns
returns c =
    let desc = c.args.self.now.core.desc in
    let journal = entries_of c.args.self.now in
    let key = c.args.ticket.now.key in
    let reads = c.deref.ensures.value ∙ ap (λ (ticket : TicketOf). ticket.inputs) c.ticket.view_is
    ∙ c.requires.inputs in
    let left = ap (λ (ticket : TicketOf). ticket.left) c.ticket.view_is ∙ c.requires.left in
    record {
      exact = subst (λ (wanted : List (List Cell)). IfOk c.eval.result (λ rows. rows ≡ wanted))
          (ap (λ (ticket : TicketOf). made_by
          (slice_get c.served.result.now.desc.tables ticket.key.table)
          (rows_of c.in_ok-left.left.items) (rows_of c.in_ok-right.right.items)) c.ticket.view_is
          ∙ made_by-read desc c.served.result.now.desc journal key _ _ c.split_at.result.0.now
          c.split_at.result.1.now (c.served.ensures.exact ∙ rw (← c.self.view_is) refl)
          c.requires.view c.in_ok-left.ensures.exact
          (left-part desc journal key c.deref.result.now c.split_at.result.0.now
          c.ticket.inside.left reads left c.split_at.ensures.front)
          c.in_ok-right.ensures.exact
          (right-part desc journal key c.deref.result.now c.split_at.result.1.now
          c.ticket.inside.left reads left c.split_at.ensures.back))
          (rw (c.deref-2.ensures.value, c.deref-3.ensures.value) at c.eval.ensures.exact);
    }
