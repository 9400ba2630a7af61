-- Each version is put in in its turn.
use Rattle.stale_test.specs.Books.{TellsStale}
use Rattle.claim_core.proofs.ReadingLemmas.{inputs_from-push}
use Rattle.claim_core.proofs.machine.Core.push_inputs.Goals as goal

pub loop-part-preserved : goal.loop-part-preserved
loop-part-preserved c =
    let tells : TellsStale c.args.self.now.desc c.args.self.now.state.journal
    c.self.inside.stale = rw (← c.self.view_is) c.self.invariant.stale in
    inputs_from-push c.args.self.now.desc c.args.self.now.state.journal c.args.src.table
    c.loop-part.part _ c.version.result _ _ _ c.loop-part-test.true
    (c.version.ensures.exact c.args.self.now.desc c.args.self.now.state.journal tells)
    c.in_ok-push_version.ensures.ok c.loop-part.invariant
