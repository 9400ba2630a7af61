use Rattle.std.proofs.Common.{◌<◌, ◌∙◌, sym, length, arith}
use Rattle.std.proofs.lemmas.Bool.{eqb-false}
use Rattle.desc_lines.proofs.AggLemmas.{each_agg_of-none}
use Rattle.desc_lines.proofs.reading.group.each_agg.Goals as goal

pub returns : goal.returns
returns c =
    let test = sym c.is_empty.ensures ∙ c.if-is_empty.false in
    let some : 0 < length c.loop-words.words.now =
    omega (arith, eqb-false (length c.loop-words.words.now) 0 test) in
    let none = each_agg_of-none c.loop-words.words.now some c.in_default.len_below in
    record { exact = rw none at c.loop-words.invariant }
