use Rattle.feed_csv.proofs.NamedLemmas.{find_raw_table-named, is_raw_named-within}
use Rattle.std.proofs.Common.{sym, ◌∙◌}
use Rattle.feed_csv.proofs.body.find_raw_table_again.Goals as goal

pub returns-then-is_raw_named-clause-exact : goal.returns-then-is_raw_named-clause-exact
returns-then-is_raw_named-clause-exact c =
    find_raw_table-named c.args.served.now.desc c.args.feed c.args.name.now c.args.last
    c.args.served.now.is_accepted (sym c.is_raw_named.ensures.exact ∙ c.if-is_raw_named.true)

pub returns-then-is_raw_named-clause-within : goal.returns-then-is_raw_named-clause-within
returns-then-is_raw_named-clause-within c =
    is_raw_named-within c.args.served.now.desc c.args.feed c.args.name.now c.args.last
    (sym c.is_raw_named.ensures.exact ∙ c.if-is_raw_named.true)
