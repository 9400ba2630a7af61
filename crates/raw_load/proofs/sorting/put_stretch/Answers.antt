-- The rows of a stretch of a partition that is closed are named.
use Rattle.std.proofs.Common.{◌∙◌, ap, arith}
use Rattle.std.proofs.lemmas.Result.{on_ok_weaker}
use Rattle.desc_types.specs.Deliveries.{DeliveryOf}
use Rattle.raw_load.proofs.SortLemmas.{NamesStretch-slice}
use Rattle.raw_load.proofs.sorting.put_stretch.Goals as goal

pub returns-then-closed : goal.returns-then-closed
returns-then-closed c = record {
  ok = rw c.if-closed.true
      (on_ok_weaker c.push_names.result
      (NamesStretch-slice c.args.key c.args.stretch c.args.delivery.now c.args.sorted.now
      c.push_names.new.asides _ _ _
      (ap (λ (delivery : DeliveryOf). delivery.number) c.delivery.view_is)
      (c.deref.ensures.value ∙ ap (λ (delivery : DeliveryOf). delivery.rows) c.delivery.view_is)
      (omega arith))
      c.push_names.ensures.ok);
}
