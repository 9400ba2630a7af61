-- A vector with the same pieces is put at the key.
use Rattle.std.proofs.Common.{arith, refl}
use Rattle.std.specs.Prelude.{◌<◌, vec_capacity, vec_len}
use Rattle.raw_load.proofs.PartLemmas.{HasPieceRoom-update, KeepsPieces-lent, KeepsPieces-put}
use Rattle.raw_load.proofs.parts.make_room_at.Goals as goal

pub returns-in_err-reserve-clause-rooms : goal.returns-in_err-reserve-clause-rooms
returns-in_err-reserve-clause-rooms c =
    HasPieceRoom-update c.args.key c.reserve.new.self _ _
    ((c.get_mut.follows.holds c.reserve.new.self).3 (rw (← c.in-Some.ensures.value) refl)).0
    (λ had.
    let room : vec_len c.in-Some.pieces.now < vec_capacity c.in-Some.pieces.now =
    rw (← c.in-Some.ensures.value) at had in
    omega (arith, c.reserve.ensures.len, c.in_err-reserve.ensures.err))

pub returns-in_err-reserve-clause-kept : goal.returns-in_err-reserve-clause-kept
returns-in_err-reserve-clause-kept c =
    KeepsPieces-lent c.args.key c.in-Some.pieces.now c.reserve.new.self _ _
    c.in-Some.ensures.value c.reserve.ensures.items (c.get_mut.follows.holds c.reserve.new.self).0
    ((c.get_mut.follows.holds c.reserve.new.self).3 (rw (← c.in-Some.ensures.value) refl)).0
    (c.get_mut.follows.holds c.reserve.new.self).4

pub returns-in-Some-clause-rooms : goal.returns-in-Some-clause-rooms
returns-in-Some-clause-rooms c =
    HasPieceRoom-update c.args.key c.reserve.new.self _ _
    ((c.get_mut.follows.holds c.reserve.new.self).3 (rw (← c.in-Some.ensures.value) refl)).0
    (λ _. omega (arith, c.in_ok-reserve.ensures.ok))

pub returns-in-Some-clause-kept : goal.returns-in-Some-clause-kept
returns-in-Some-clause-kept c =
    KeepsPieces-lent c.args.key c.in-Some.pieces.now c.reserve.new.self _ _
    c.in-Some.ensures.value c.reserve.ensures.items (c.get_mut.follows.holds c.reserve.new.self).0
    ((c.get_mut.follows.holds c.reserve.new.self).3 (rw (← c.in-Some.ensures.value) refl)).0
    (c.get_mut.follows.holds c.reserve.new.self).4

pub returns-in-Ok-clause-rooms : goal.returns-in-Ok-clause-rooms
returns-in-Ok-clause-rooms c =
    HasPieceRoom-update c.args.key _ _ _
    (rw c.get_mut.follows.holds-at-none at c.in-Ok.ensures.updates.0)
    (λ _. omega (arith, c.in_ok-with_capacity.ensures.len, c.in_ok-with_capacity.ensures.exact))

pub returns-in-Ok-clause-kept : goal.returns-in-Ok-clause-kept
returns-in-Ok-clause-kept c =
    KeepsPieces-put c.args.key c.in_ok-with_capacity.field-0 _ _ c.in_default.ensures.value
    c.in_ok-with_capacity.ensures.items
    (rw c.get_mut.follows.holds-at-none at c.in-Ok.ensures.entries)
    (rw c.get_mut.follows.holds-at-none at c.in-Ok.ensures.updates.0) c.in-Ok.ensures.ordered
