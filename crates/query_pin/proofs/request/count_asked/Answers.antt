use Rattle.std.proofs.Common.{◌∙◌, ap, length, sym}
use Rattle.std.proofs.lemmas.List.FromFn.{length-range_with_len}
use Rattle.query_pin.proofs.request.count_asked.Goals as goal

pub returns-clause-exact : goal.returns-clause-exact
returns-clause-exact c = sym (rw (c.table.ensures.exact, ← c.behind-served.view_is)
    (ap length c.parts_of_span.ensures.exact ∙ length-range_with_len _ _))
