-- What loading a prepared delivery leaves: the loads with one more.
use Rattle.std.proofs.Common.{length}
use Rattle.raw_load.proofs.LoadLemmas.{AreLoads-loaded, TellsRaw-loaded, loads_of-loaded}
use Rattle.raw_load.proofs.RoomLemmas.{HasAsideRoomAt-spare, HasRoomToCommit-room}
use Rattle.raw_load.proofs.book.RawBook.commit.Goals as goal

pub commit-requires-clause-room : goal.commit-requires-clause-room
commit-requires-clause-room c =
    HasRoomToCommit-room c.self.inside.loads c.self.inside.feeds.items c.args.prepared
    (rw (← c.self.view_is) at c.requires.room)

pub commit-requires-clause-aside_room : goal.commit-requires-clause-aside_room
commit-requires-clause-aside_room c =
    HasAsideRoomAt-spare c.self.inside.feeds.items c.args.prepared.delivery.feed
    (length c.args.prepared.asides) (rw (← c.self.view_is) at c.requires.room.asides)

pub invariant_of-self : goal.invariant_of-self
invariant_of-self c =
    AreLoads-loaded c.args.prepared c.args.place c.self.inside.loads c.commit.new.loads
    c.self.inside.feeds.items c.commit.new.feeds.items
    (record {
      are = c.self.invariant;
      room = rw (← c.self.view_is) at c.requires.room;
      accepts = c.commit.ensures.ok;
      gains = c.commit.ensures.gained;
    })

pub returns-clause-loads : goal.returns-clause-loads
returns-clause-loads c =
    rw (← c.self.view_is)
    (loads_of-loaded c.args.prepared c.args.place c.self.inside.loads c.commit.new.loads
    c.self.invariant c.commit.ensures.ok)

pub returns-clause-tells : goal.returns-clause-tells
returns-clause-tells c = λ desc tells is.
    TellsRaw-loaded desc c.args.prepared c.args.place c.self.inside.loads c.commit.new.loads
    c.self.inside.feeds.items c.commit.new.feeds.items
    (record {
      are = c.self.invariant;
      room = rw (← c.self.view_is) at c.requires.room;
      accepts = c.commit.ensures.ok;
      gains = c.commit.ensures.gained;
    })
    (rw (← c.self.view_is) at tells) (rw (← c.self.view_is) at is)
