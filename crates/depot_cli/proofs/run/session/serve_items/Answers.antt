-- Each item is served by what the lemmas on sessions say of it, for the description of the start.
use Rattle.std.proofs.Common.{arith, ◌≡◌, ◌∙◌, refl, subst, IfSome, List, ℕ}
use Rattle.std.specs.Prelude.{Err}
use Rattle.std.proofs.lemmas.Option.{IfSome_then}
use Rattle.desc_types.specs.Descriptions.{DescOf}
use Rattle.depot_cli.specs.Reading.{session, step_of}
use Rattle.depot_cli.specs.Replies.{reply}
use Rattle.depot_cli.specs.ScriptCalls.{IsReplied, IsReplyRoom, IsStep}
use Rattle.depot_cli.specs.SerialJournal.{made_of}
use Rattle.depot_cli.proofs.EndLemmas.{IsRun-cut, IsRun-stopped}
use Rattle.depot_cli.proofs.SessionLemmas.{HasServed-start, HasServed-item}
use Rattle.depot_cli.proofs.run.session.serve_items.Goals as goal

pub items-init : goal.items-init
items-init g c = record {
  served = HasServed-start _ _ _ _ _ _ _ c.requires.empty c.requires.start;
  kept = c.requires.kept;
  lines = omega arith;
  within = omega arith;
  read = refl;
  written = refl;
  loan = refl;
}

pub items-preserved : goal.items-preserved
items-preserved g c =
    let desc = c.args.journal.now.core.desc in
    let own : c.items.journal.core.desc ≡ desc = c.items.invariant.kept.served in
    let read : c.served.result.now.desc ≡ desc = c.served.ensures.exact ∙ own in
    let answer = rw (c.in-Ok-Some.field-0-is, read) at c.in-Ok-Some.ensures.answer in
    let more = rw c.in-Ok-Some.field-0-is at c.in-Ok-Some.ensures.more in
    record {
      served = rw c.is_refused-is_refused.ensures.exact
          (IfSome_then _ c.items.invariant.served (λ input served.
          HasServed-item desc c.args.base (session desc c.args.base input)
          _ _ _ _ _ _ _ _ _ _ _ _ _ _ _ served answer (rw own at c.in-Ok.ensures.replied)
          (rw own at c.in-Ok.ensures.room) (rw own at c.in-Ok.ensures.ok)));
      kept = rw own at c.in-Ok.ensures.kept;
      lines = omega (arith, more);
      within = omega (arith, c.in-Ok-Some.ensures.kept.within);
      read = c.in-Ok-Some.ensures.cause ∙ c.items.invariant.read;
      written = c.in-Ok.ensures.cause ∙ c.items.invariant.written;
      loan = c.in-Ok-Some.ensures.kept.same_loan ∙ c.items.invariant.loan;
    }

pub returns-in-Err-clause-run : goal.returns-in-Err-clause-run
returns-in-Err-clause-run g c =
    let desc = c.args.journal.now.core.desc in
    let answer = rw c.in-Err.fault-is at c.in-Err.ensures.answer in
    let answer_ = subst (λ (desc : DescOf). IfSome (g.S.Source.bytes_left c.items.reader.source)
    (λ bytes. IsStep (step_of desc c.args.base c.items.reader.taken bytes)
    c.next_work.new.reader.taken (g.S.Source.bytes_left c.next_work.new.reader.source)
    (Err c.in-Err.fault)))
    (c.served.ensures.exact ∙ c.items.invariant.kept.served) answer in
    let run = IfSome_then _ c.items.invariant.served (λ input served.
    IsRun-stopped desc c.args.base (session desc c.args.base input)
    _ _ _ _ _ _ _ _ c.next_work.new.reader.taken _ _ _ served answer_) in
    rw c.status_of.ensures.exact run

pub returns-in-Err-serve_item-clause-run : goal.returns-in-Err-serve_item-clause-run
returns-in-Err-serve_item-clause-run g c =
    let desc = c.args.journal.now.core.desc in
    let own : c.items.journal.core.desc ≡ desc = c.items.invariant.kept.served in
    let read : c.served.result.now.desc ≡ desc = c.served.ensures.exact ∙ own in
    let answer = rw (c.in-Ok-Some.field-0-is, read) at c.in-Ok-Some.ensures.answer in
    let text : DescOf → List ℕ = λ desc. reply desc c.items.line (made_of c.items.journal)
    c.in-Ok-Some.work in
    IfSome_then _ c.items.invariant.served (λ input served.
    IsRun-cut desc c.args.base (session desc c.args.base input)
    _ _ _ _ _ (g.O.Sink.room c.serve_item.new.sink) _ _ _ _ _ _ _ _ _ served answer
    (subst (λ (desc : DescOf). IsReplied {T = Unit {0}} (g.O.Sink.bytes_got c.items.sink)
    (g.O.Sink.bytes_got c.serve_item.new.sink) (text desc) (Err c.in-Err-serve_item.status)) own
    c.in-Err-serve_item.ensures.replied)
    (subst (λ (desc : DescOf). IsReplyRoom {T = Unit {0}} (g.O.Sink.room c.items.sink)
    (g.O.Sink.room c.serve_item.new.sink) (text desc) (Err c.in-Err-serve_item.status)) own
    c.in-Err-serve_item.ensures.room))
