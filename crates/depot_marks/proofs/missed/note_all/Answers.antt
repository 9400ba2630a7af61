-- One row more is noted.
use Rattle.view_meaning.specs.RawMarks.{is_missed}
use Rattle.depot_marks.proofs.MissedLemmas.{list_any-step}
use Rattle.depot_marks.proofs.missed.note_all.Goals as goal

pub note_one-requires : goal.note_one-requires
note_one-requires c = record {
  place = c.loop-aside.invariant.places _
      (c.requires.places c.loop-aside.aside-index _ c.loop-aside-test.true);
}

pub loop-aside-preserved : goal.loop-aside-preserved
loop-aside-preserved c = record {
  places = λ key has. c.note_one.ensures.places key (c.loop-aside.invariant.places key has);
  exact = λ key last. list_any-step _ _ _ (is_missed key last) c.args.asides.now
      c.loop-aside.aside-index _ c.loop-aside-test.true (c.loop-aside.invariant.exact key last)
      (c.note_one.ensures.exact key last);
}
