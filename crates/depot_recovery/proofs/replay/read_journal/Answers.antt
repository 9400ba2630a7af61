-- Record by record: each that is read is one more, and a fault of one is a fault of all.
use Rattle.std.proofs.Common.{◌∙◌, arith, refl, sym}
use Rattle.std.specs.Prelude.{Err, Ok}
use Rattle.table_desc.proofs.TextLemmas.{Err-passed}
use Rattle.depot_recovery.proofs.ListedLemmas.{Contains-of_bodies}
use Rattle.depot_recovery.proofs.ReadOnLemmas.{ReadsOn-end, ReadsOn-first, ReadsOn-next}
use Rattle.depot_recovery.proofs.ReadOnLemmas.{fault-ReadsOn, none-within, room-ReadsOn}
use Rattle.depot_recovery.proofs.ReadingLemmas.{IsLogReading-both, IsLogReading-err}
use Rattle.depot_recovery.proofs.ReadingLemmas.{IsLogReading-same}
use Rattle.depot_recovery.proofs.replay.read_journal.Goals as goal

pub loop-number-init : goal.loop-number-init
loop-number-init g c =
    record {
      reads = ReadsOn-first (g.D.Disk.state c.args.disk.now).holds c.args.bodies.now
          c.in-Some.first.now c.in_ok-replay-in-Some.replay (sym c.in-Some.ensures.exact)
          c.in_ok-replay-in-Some.ensures.exact.0 c.in_ok-replay-in-Some.ensures.exact.1
          c.in_ok-replay-in-Some.ensures.listed;
      reading = IsLogReading-same (g.D.Disk.state c.args.disk.now);
      loan = refl;
    }

pub read_next-requires-clause-found : goal.read_next-requires-clause-found
read_next-requires-clause-found g c = c.loop-number.invariant.reads.read.core.found

pub read_next-requires-clause-noted : goal.read_next-requires-clause-noted
read_next-requires-clause-noted g c = c.loop-number.invariant.reads.read.noted

pub read_next-requires-clause-listed : goal.read_next-requires-clause-listed
read_next-requires-clause-listed g c = λ key at len reads.
    Contains-of_bodies c.args.bodies.now c.loop-number.replay.claims.claims c.loop-number.number
    c.in-Some-get.bytes.now key at len c.loop-number.invariant.reads.listed
    c.loop-number.auto.number (sym c.in-Some-get.ensures.exact) reads

pub read_next-requires-clause-short : goal.read_next-requires-clause-short
read_next-requires-clause-short g c =
    room-ReadsOn (g.D.Disk.state c.args.disk.now).holds c.args.bodies.now c.loop-number.number
    c.in-Some-get.bytes.now c.loop-number.replay (sym c.in-Some-get.ensures.exact)
    c.loop-number.invariant.reads c.requires.short

pub returns-in_err-read_next-in-Some-get-clause-exact :
    goal.returns-in_err-read_next-in-Some-get-clause-exact
returns-in_err-read_next-in-Some-get-clause-exact g c =
    let fault = c.in_err-read_next-in-Some-get.field-0.0 in
    rw (Err-passed c.from_residual-in_err-read_next-in-Some-get.result fault
    c.from_residual-in_err-read_next-in-Some-get.ensures.1)
    (fault-ReadsOn (g.D.Disk.state c.args.disk.now).holds (g.D.Disk.state c.loop-number.disk).holds
    c.args.bodies.now c.loop-number.number c.in-Some-get.bytes.now c.loop-number.replay fault
    c.loop-number.invariant.reading.same.held (sym c.in-Some-get.ensures.exact)
    c.loop-number.invariant.reads c.in_err-read_next-in-Some-get.ensures.exact)

pub returns-in_err-read_next-in-Some-get-clause-reading :
    goal.returns-in_err-read_next-in-Some-get-clause-reading
returns-in_err-read_next-in-Some-get-clause-reading g c =
    let old = g.D.Disk.state c.args.disk.now in
    let mid = g.D.Disk.state c.loop-number.disk in
    let new = g.D.Disk.state c.read_next.new.disk in
    let fault = c.in_err-read_next-in-Some-get.field-0.0 in
    let last = IsLogReading-err mid new fault c.in_err-read_next-in-Some-get.ensures.reading in
    rw (Err-passed c.from_residual-in_err-read_next-in-Some-get.result fault
    c.from_residual-in_err-read_next-in-Some-get.ensures.1)
    (IsLogReading-both old mid new (Err fault) c.loop-number.invariant.reading last)

pub returns-in_err-read_next-in-Some-get-clause-loan :
    goal.returns-in_err-read_next-in-Some-get-clause-loan
returns-in_err-read_next-in-Some-get-clause-loan g c =
    c.in_err-read_next-in-Some-get.ensures.loan ∙ c.loop-number.invariant.loan

pub unreachable-requires : goal.unreachable-requires
unreachable-requires g c =
    none-within c.args.bodies.now c.loop-number.number
    (omega (arith, c.loop-number-test.true, c.len-number-end.ensures.exact))
    c.in-None-get.ensures.exact

pub loop-number-preserved : goal.loop-number-preserved
loop-number-preserved g c =
    let old = g.D.Disk.state c.args.disk.now in
    let mid = g.D.Disk.state c.loop-number.disk in
    let new = g.D.Disk.state c.read_next.new.disk in
    record {
      reads = ReadsOn-next (g.D.Disk.state c.args.disk.now).holds
          (g.D.Disk.state c.loop-number.disk).holds c.args.bodies.now c.loop-number.number
          c.in-Some-get.bytes.now c.loop-number.replay c.read_next.new.self
          c.in_ok-read_next-in-Some-get.field-0 c.loop-number.invariant.reading.same.held
          c.loop-number.auto.number (sym c.in-Some-get.ensures.exact)
          c.loop-number.invariant.reads c.in_ok-read_next-in-Some-get.ensures.ok
          c.in_ok-read_next-in-Some-get.ensures.exact;
      reading = IsLogReading-both old mid new (Ok tt) c.loop-number.invariant.reading
          c.in_ok-read_next-in-Some-get.ensures.reading;
      loan = c.in_ok-read_next-in-Some-get.ensures.loan ∙ c.loop-number.invariant.loan;
    }

pub returns-clause-exact : goal.returns-clause-exact
returns-clause-exact g c =
    (ReadsOn-end (g.D.Disk.state c.args.disk.now).holds c.args.bodies.now c.loop-number.number
    _ (omega (arith, c.loop-number-test.false, c.len-number-end.ensures.exact))
    (rw (← c.replay-2.view_is) at c.loop-number.invariant.reads)).1

pub returns-clause-ok : goal.returns-clause-ok
returns-clause-ok g c =
    (ReadsOn-end (g.D.Disk.state c.args.disk.now).holds c.args.bodies.now c.loop-number.number
    _ (omega (arith, c.loop-number-test.false, c.len-number-end.ensures.exact))
    (rw (← c.replay-2.view_is) at c.loop-number.invariant.reads)).0

pub returns-clause-reading : goal.returns-clause-reading
returns-clause-reading g c = record {
  same = c.loop-number.invariant.reading.same;
  time = c.loop-number.invariant.reading.time;
  cause = c.loop-number.invariant.reading.cause;
}

pub returns-clause-loan : goal.returns-clause-loan
returns-clause-loan g c = c.loop-number.invariant.loan
