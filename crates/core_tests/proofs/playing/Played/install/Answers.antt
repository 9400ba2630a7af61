-- What an install leaves, and the entry that it adds.
use Rattle.std.proofs.Common.{◌∙◌, ap, sym}
use Rattle.machine_meaning.specs.Events.{claim_at}
use Rattle.core_tests.proofs.PlayedLemmas.{IsPlayed-install, IsPlayed-same}
use Rattle.core_tests.proofs.playing.Played.install.Goals as goal

pub invariant_of-self : goal.invariant_of-self
invariant_of-self c =
    let inside = c.self.inside in
    let mid = c.ready_install.new.self in
    let kept = c.ready_install.ensures.kept in
    let there = ap (claim_at c.args.id) kept.state.claims ∙ sym c.in-Some.ensures.exact in
    rw c.in_ok-push.ensures.items
    (IsPlayed-install mid c.step_install-entry.new.self c.in-Some.claim.who c.args.id
    c.in-Some.claim inside.lines.now inside.entries.items inside.pin there
    (c.step_install-entry.ensures.step c.in-Some.claim there)
    (IsPlayed-same inside.core mid inside.lines.now inside.entries.items inside.pin kept
    c.self.invariant))
