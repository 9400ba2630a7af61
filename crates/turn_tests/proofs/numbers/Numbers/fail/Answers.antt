use Rattle.std.proofs.Common.{rules, ◌≡◌, ◌∙◌, ◌+◌, ◌++◌, [], ◌∷◌, ap, append-nil, if◌then◌else◌, not, refl, sym}
use Rattle.turn_tests.proofs.NumberLemmas.{Adds-entries, Adds-fail, Adds-none}
use Rattle.turn_tests.proofs.numbers.Numbers.fail.Goals as goal

pub returns-in_default-clause-adds : goal.returns-in_default-clause-adds
returns-in_default-clause-adds c = Adds-none c.args.by c.args.self.now

pub returns-then-is_err-clause-adds : goal.returns-then-is_err-clause-adds
returns-then-is_err-clause-adds c =
    let old = c.args.self.now in
    let same : c.push.new.self.items ≡ old.failed.items = c.push.ensures.items
    ∙ ap (λ ok. if ok then old.failed.items ++ c.args.by ∷ [] else old.failed.items)
    (c.is_err.ensures.negation ∙ ap not c.if-is_err.true) in
    Adds-entries c.args.by old _ refl [] (sym (append-nil old.log.items)) refl refl refl same

pub returns-clause-adds : goal.returns-clause-adds
returns-clause-adds c =
    let old = c.args.self.now in
    let level : c.in-Some.level ≡ old.level + 1 = search rules in
    let more : c.push.new.self.items ≡ old.failed.items ++ c.args.by ∷ [] = c.push.ensures.items
    ∙ ap (λ ok. if ok then old.failed.items ++ c.args.by ∷ [] else old.failed.items)
    (c.is_err.ensures.negation ∙ ap not c.if-is_err.false) in
    Adds-fail c.args.by old _ refl c.args.failure refl level refl c.or-self.ensures more
