use Rattle.std.proofs.Common.{◌≡◌, ◌∙◌, Ok, ap}
use Rattle.std.proofs.lemmas.Result.{IfOk-weaker}
use Rattle.table_desc.specs.Canonical.{canonical}
use Rattle.table_desc.specs.Described.{described}
use Rattle.table_desc.proofs.AgainLemmas.{declared-again}
use Rattle.table_desc.proofs.writing.write_desc.Goals as goal

pub returns-clause-again : goal.returns-clause-again
returns-clause-again c =
    let accepted = c.args.accepted.now in
    IfOk-weaker c.canonical_text.result (λ text. text.items ≡ canonical accepted.desc)
    (λ text. described text.items ≡ Ok accepted.desc)
    (λ text is. ap described is ∙ declared-again accepted.desc accepted.is_accepted)
    c.canonical_text.ensures.exact
