-- The feed has room, and tells what it told.
use Rattle.std.proofs.Common.{refl}
use Rattle.raw_load.proofs.FeedLemmas.{HasAsideRoomAt-set, feeds-room}
use Rattle.raw_load.proofs.feed.make_aside_room.Goals as goal

pub returns-in_err-reserve-clause-kept : goal.returns-in_err-reserve-clause-kept
returns-in_err-reserve-clause-kept c =
    feeds-room c.args.feeds.now.items c.from.result c.index_mut-book.result.now _
    c.index_mut-book.ensures.value refl c.reserve.ensures.items

pub returns-clause-ok : goal.returns-clause-ok
returns-clause-ok c =
    rw c.from.ensures
    (HasAsideRoomAt-set c.args.feeds.now.items c.args.feed c.args.count _ c.requires.there
    c.in_ok-reserve.ensures.ok)

pub returns-clause-kept : goal.returns-clause-kept
returns-clause-kept c =
    feeds-room c.args.feeds.now.items c.from.result c.index_mut-book.result.now _
    c.index_mut-book.ensures.value refl c.reserve.ensures.items
