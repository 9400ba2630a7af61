-- A load may follow if its number has no place.
use Rattle.std.proofs.Common.{◌∙◌, ap, sym}
use Rattle.desc_types.specs.Deliveries.{DeliveryOf}
use Rattle.raw_load.specs.Books.{place_in}
use Rattle.depot_recovery.proofs.ReplayLemmas.{none-new, place-repeat}
use Rattle.depot_recovery.proofs.replay.Replay.may_follow.Goals as goal

pub returns-in-Load : goal.returns-in-Load
returns-in-Load c =
    let told = c.raw.result.now.told in
    let place = c.place_of.ensures.exact
    ∙ ap (λ (of : DeliveryOf). place_in told.loads of.feed of.number) c.delivery.view_is in
    record {
      exact = rw (← c.self.view_is, c.in-Load.is) (none-new c.is_none.result _
          (sym c.is_none.ensures ∙ place-repeat told c.self.inside.core.state.journal
          c.in-Load.delivery c.place_of.result c.raw.ensures.deliveries place));
    }
