use Rattle.std.proofs.Common.{◌∙◌, ◌+◌, refl, sym}
use Rattle.std.proofs.lemmas.List.{take_rest}
use Rattle.desc_lines.specs.Lines.{is_agg}
use Rattle.desc_lines.proofs.CutLemmas.{cut_at_words}
use Rattle.desc_lines.proofs.reading.group.cut_keys.Goals as goal

pub returns-in-Some : goal.returns-in-Some
returns-in-Some c = record {
  exact = rw (
    take_rest c.args.words.now (c.in-Some.place + 1),
    cut_at_words is_agg c.args.words.now,
    sym c.place_of_agg.ensures.exact ∙ c.in-Some.is,
  ) refl;
}

pub returns-in-None : goal.returns-in-None
returns-in-None c = record {
  exact = rw (
    cut_at_words is_agg c.args.words.now,
    sym c.place_of_agg.ensures.exact ∙ c.in-None.is,
  ) refl;
}
