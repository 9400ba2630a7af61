-- What is pinned may be read, and what is read is what the request is shown; the pin ends.
use Rattle.std.proofs.Common.{◌≡◌, List, ℕ, IfOk, ap, subst, sym}
use Rattle.query_pin.specs.Pins.{PinnedOf}
use Rattle.run_journal.specs.Pinning.{IsBesidePin}
use Rattle.depot_cli.proofs.ShownLemmas.{whole_answer-pinned}
use Rattle.depot_cli.proofs.reply.reading.query_reply.Goals as goal

pub returns-clause-exact : goal.returns-clause-exact
returns-clause-exact c =
    subst (λ (wanted : List ℕ). IfOk c.pinned_text-text.result (λ text. text.items ≡ wanted))
    (whole_answer-pinned c.args.journal.now c.pin.new.self c.args.request.now c.in_ok-pinned.pinned
    c.requires.kept c.in_ok-pinned.ensures.ok c.in_ok-pinned.ensures.exact)
    c.pinned_text-text.ensures.exact

pub returns-clause-same : goal.returns-clause-same
returns-clause-same c =
    c.unpin.ensures.kept c.args.journal.now (subst (λ (id : ℕ).
    IsBesidePin c.args.journal.now id c.pin.new.self)
    (sym (ap (λ (pinned : PinnedOf). pinned.id) c.pinned.view_is))
    c.in_ok-pinned.ensures.ok.beside)
