-- A book of nothing tells what no deliveries kept and set aside.
use Rattle.raw_load.proofs.LoadLemmas.{TellsRaw-empty}
use Rattle.raw_load.proofs.book.RawBook.new.Goals as goal

pub returns-clause-tells : goal.returns-clause-tells
returns-clause-tells c =
    TellsRaw-empty c.args.served.now.desc c.new.result c.in_ok-empty_feeds.field-0.items
    c.new.ensures.places c.new.ensures.parts c.in_ok-empty_feeds.ensures.exact
