-- After the last item all of the request is told.
use Rattle.std.proofs.Common.{◌≡◌, ◌∙◌, List, ap, arith, length, take_all}
use Rattle.view_meaning.specs.declared.request.Item.{Item}
use Rattle.claim_core.proofs.PinningLemmas.{told_of, told_of-same}
use Rattle.claim_core.proofs.machine.Core.items_of.Goals as goal

pub returns : goal.returns
returns c =
    let asked : c.deref-item-items.result.now ≡ c.args.request.now =
    c.deref-item-items.ensures.value ∙ c.request.view_is in
    record {
      exact = c.loop-item.invariant
          ∙ ap (told_of c.args.self.now.desc c.args.self.now.state.journal)
          (take_all c.loop-item.item-index c.args.request.now
          (omega (
            arith,
            c.loop-item-test.false,
            ap (λ (items : List Item). length items) asked,
          )))
          ∙ told_of-same c.args.self.now.desc c.args.self.now.state.journal c.args.request.now;
    }
