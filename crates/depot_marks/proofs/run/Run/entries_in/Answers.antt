-- The keys from the first of the run up to the one after its last are those of the run.
use Rattle.std.proofs.Common.{◌∙◌, ◌+◌, refl}
use Rattle.std.proofs.lemmas.List.Elements.{filter_agree}
use Rattle.desc_types.specs.declared.table.Key.{Key}
use Rattle.depot_marks.proofs.RunLemmas.{range_contains-run}
use Rattle.depot_marks.proofs.run.Run.entries_in.Goals as goal

pub returns-clause-exact : goal.returns-clause-exact
returns-clause-exact g c =
    c.range.ensures.between tt
    ∙ filter_agree _ _
    (λ (entry : Key × g.row.V.Denot). range_contains-run c.args.self.table c.args.self.parts.first
    c.args.self.parts.count (c.args.self.parts.first + c.args.self.parts.count) refl entry.0)
    c.args.map.now.entries

pub returns-clause-found : goal.returns-clause-found
returns-clause-found g c = λ index default within.
    ((c.range.ensures.in_range tt).0 index default within).1
