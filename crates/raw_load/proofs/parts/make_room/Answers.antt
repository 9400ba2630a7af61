-- One partition more has room.
use Rattle.std.proofs.Common.{◌≡◌, map, rules}
use Rattle.std.specs.Borrow.{Bor}
use Rattle.std.specs.Map.{keys_of}
use Rattle.std.specs.Map.Iter.{deref}
use Rattle.std.proofs.lemmas.List.Elements.{All-map, All-push, All-weaker}
use Rattle.std.proofs.lemmas.Map.Iter.{iter_end}
use Rattle.desc_types.specs.declared.table.Key.{Key}
use Rattle.raw_load.specs.Pieces.{HasPieceRoom}
use Rattle.raw_load.proofs.PartLemmas.{HasPieceRooms-keys, KeepsPieces-step}
use Rattle.raw_load.proofs.parts.make_room.Goals as goal

pub returns-in_err-make_room_at-clause-kept : goal.returns-in_err-make_room_at-clause-kept
returns-in_err-make_room_at-clause-kept c =
    KeepsPieces-step _ _ _ c.loop-key.invariant.kept c.make_room_at.ensures.kept

pub loop-key-preserved : goal.loop-key-preserved
loop-key-preserved c = record {
  rooms = All-push (λ (key : Bor Key). HasPieceRoom c.make_room_at.new.parts.entries key.now)
      c.loop-key.yielded c.in-Some.key
      (All-weaker (λ (key : Bor Key). HasPieceRoom c.loop-key.parts.entries key.now)
      (λ (key : Bor Key). HasPieceRoom c.make_room_at.new.parts.entries key.now)
      (λ key room. c.make_room_at.ensures.rooms key.now room)
      c.loop-key.yielded c.loop-key.invariant.rooms)
      c.in_ok-make_room_at.ensures.ok;
  kept = KeepsPieces-step _ _ _ c.loop-key.invariant.kept c.make_room_at.ensures.kept;
}

pub returns-clause-ok : goal.returns-clause-ok
returns-clause-ok c =
    let whole : map deref c.loop-key.yielded ≡ keys_of c.args.found.now.entries =
    search (rules, iter_end) in
    HasPieceRooms-keys c.loop-key.parts.entries c.args.found.now.entries
    (rw (← whole)
    (All-map (HasPieceRoom c.loop-key.parts.entries) deref c.loop-key.yielded
    c.loop-key.invariant.rooms))
