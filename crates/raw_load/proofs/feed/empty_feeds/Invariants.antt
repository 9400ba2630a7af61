-- The feeds so far are empty.
use Rattle.std.proofs.Common.{◌≡◌, map, take}
use Rattle.raw_load.specs.Feeds.{empty_feeds, feed_of}
use Rattle.raw_load.proofs.feed.empty_feeds.Given as goal

abbrev pub invariant-loop-feed : goal.invariant-loop-feed
invariant-loop-feed l =
    map feed_of l.feeds.items ≡ empty_feeds (take l._feed-index l.desc.feeds)
