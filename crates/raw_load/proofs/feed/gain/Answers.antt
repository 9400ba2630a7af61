-- The feed gained, and each other one is as it was.
use Rattle.std.proofs.Common.{length}
use Rattle.raw_load.proofs.FeedLemmas.{GainsFeed-set, HasAsideRoomAt-there}
use Rattle.raw_load.proofs.feed.gain.Goals as goal

pub returns : goal.returns
returns c = record {
  gained = rw c.from.ensures
      (GainsFeed-set c.args.feed c.args.closes c.args.asides.items c.args.feeds.now.items
      c.index_mut.result.now c.gain_one.new.book
      (HasAsideRoomAt-there c.args.feeds.now.items c.args.feed (length c.args.asides.items)
      c.requires.room)
      (rw c.from.ensures at c.index_mut.ensures.value) c.gain_one.ensures.gained);
}
