-- One partition more has a place.
use Rattle.std.proofs.Common.{◌∙◌, take}
use Rattle.std.proofs.lemmas.List.Elements.{All-more, All-weaker}
use Rattle.depot_marks.specs.Missed.{HasPartOf, part_of_aside}
use Rattle.depot_marks.proofs.missed.take_places.Goals as goal

pub loop-aside-preserved : goal.loop-aside-preserved
loop-aside-preserved c = record {
  places = All-more (HasPartOf c.take_place.new.parts.entries) c.args.asides.now
      c.loop-aside.aside-index _ c.loop-aside-test.true
      (All-weaker (HasPartOf c.loop-aside.parts.entries)
      (HasPartOf c.take_place.new.parts.entries)
      (λ aside has. c.take_place.ensures.places (part_of_aside aside) has)
      (take c.loop-aside.aside-index c.args.asides.now) c.loop-aside.invariant.places)
      (rw c.part_of_aside.ensures.exact at c.in_ok-take_place.ensures.ok);
  kept = λ key last. c.take_place.ensures.kept key last ∙ c.loop-aside.invariant.kept key last;
}
