-- The place of the load at the index, if it has the number.
use Rattle.std.proofs.Common.{◌∙◌, ap, get_or, length, refl, sym}
use Rattle.std.specs.Prelude.{Bool, None, Some, if◌then◌else◌}
use Rattle.std.proofs.lemmas.Bool.{ltb-false}
use Rattle.std.proofs.lemmas.Option.{slice_get_past, slice_get_read}
use Rattle.raw_load.proofs.BookLemmas.{place_by, place_if-loads_of}
use Rattle.raw_load.proofs.book.place_at.Goals as goal

pub returns-in_err-delivery : goal.returns-in_err-delivery
returns-in_err-delivery c = record {
  exact = c.from_residual.ensures
      ∙ sym (place_if-loads_of _ _ c.args.index c.args.number c.requires.paired
      ∙ ap (place_by c.args.places.now c.args.index c.args.number)
      (slice_get_past c.args.deliveries.now c.args.index
      (ltb-false c.args.index (length c.args.deliveries.now)
      (sym c.in_err-delivery.ensures.lookup.0))));
}

pub returns-then-is_numbered : goal.returns-then-is_numbered
returns-then-is_numbered c = record {
  exact = sym (place_if-loads_of _ _ c.args.index c.args.number c.requires.paired
      ∙ ap (place_by c.args.places.now c.args.index c.args.number)
      (slice_get_read c.args.deliveries.now (length c.args.deliveries.now) c.args.index
      c.in_ok-delivery.delivery.now refl c.in_ok-delivery.ensures.lookup.3.0
      c.in_ok-delivery.ensures.lookup.1)
      ∙ ap (λ (has : Bool). if has then Some (get_or c.args.places.now c.args.index 0) else None)
      (sym c.is_numbered.ensures.exact ∙ c.if-is_numbered.true));
}

pub returns-else-is_numbered : goal.returns-else-is_numbered
returns-else-is_numbered c = record {
  exact = sym (place_if-loads_of _ _ c.args.index c.args.number c.requires.paired
      ∙ ap (place_by c.args.places.now c.args.index c.args.number)
      (slice_get_read c.args.deliveries.now (length c.args.deliveries.now) c.args.index
      c.in_ok-delivery.delivery.now refl c.in_ok-delivery.ensures.lookup.3.0
      c.in_ok-delivery.ensures.lookup.1)
      ∙ ap (λ (has : Bool). if has then Some (get_or c.args.places.now c.args.index 0) else None)
      (sym c.is_numbered.ensures.exact ∙ c.if-is_numbered.false));
}
