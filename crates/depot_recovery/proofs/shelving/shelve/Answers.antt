-- Each turn adds what has to be kept of one entry.
use Rattle.std.proofs.Common.{◌≡◌, ◌∙◌, ◌<◌, arith, length, refl}
use Rattle.std.specs.Prelude.{Err, Ok}
use Rattle.table_desc.proofs.TextLemmas.{Err-passed}
use Rattle.version_store.specs.Shelves.{kept_in}
use Rattle.depot_recovery.specs.Recovered.{Refuses}
use Rattle.depot_recovery.specs.Replaying.{depot_by}
use Rattle.depot_recovery.specs.Shelving.{latest_in, rows_found}
use Rattle.depot_recovery.proofs.ReadingLemmas.{IsLogReading-both, IsLogReading-err}
use Rattle.depot_recovery.proofs.ReadingLemmas.{IsLogReading-same}
use Rattle.depot_recovery.proofs.ShelvedLemmas.{IfSome-held, KeepsHeld-all, ReadsBefore-first}
use Rattle.depot_recovery.proofs.ShelvedLemmas.{Reads-step, Refuses-all, Shelves-all}
use Rattle.depot_recovery.proofs.ShelvedLemmas.{ShelvesBefore-first, ShelvesBefore-step}
use Rattle.depot_recovery.proofs.ShelvedLemmas.{length-bodies}
use Rattle.depot_recovery.proofs.shelving.shelve.Goals as goal

pub loop-number-init : goal.loop-number-init
loop-number-init g c =
    let depot = depot_by c.args.bodies.now c.args.core.now in record {
      kept = ShelvesBefore-first depot (kept_in c.new-shelf.result) c.new-shelf.ensures.exact;
      read = ReadsBefore-first (g.D.Disk.state c.args.disk.now).holds depot
          (kept_in c.new-shelf.result) c.new-shelf.ensures.exact;
      reading = IsLogReading-same (g.D.Disk.state c.args.disk.now);
      loan = refl;
    }

pub shelve_next-requires-clause-fresh : goal.shelve_next-requires-clause-fresh
shelve_next-requires-clause-fresh g c =
    c.loop-number.invariant.kept.later c.loop-number.number (omega arith)

pub returns-in_err-shelve_next-clause-exact : goal.returns-in_err-shelve_next-clause-exact
returns-in_err-shelve_next-clause-exact g c =
    let bodies = c.args.bodies.now in
    let core = c.args.core.now in
    let number = c.loop-number.number in
    let refused = c.in_err-shelve_next.field-0.0 in
    let below : number < length bodies =
    omega (arith, c.loop-number-test.true, c.len-number-end.ensures.exact) in
    rw (Err-passed c.from_residual.result refused c.from_residual.ensures.1)
    (Refuses-all (g.D.Disk.state c.args.disk.now).holds bodies core number
    (kept_in c.loop-number.shelf) refused c.requires.replayed (omega (arith, c.loop-number.auto.number)) below
    c.loop-number.invariant.read
    (IfSome-held (g.D.Disk.state c.args.disk.now).holds (g.D.Disk.state c.loop-number.disk).holds
    (λ image. Refuses (rows_found image core.desc number (latest_in (depot_by bodies core) number))
    refused) c.loop-number.invariant.reading.same.held c.in_err-shelve_next.ensures.exact))

pub returns-in_err-shelve_next-clause-reading : goal.returns-in_err-shelve_next-clause-reading
returns-in_err-shelve_next-clause-reading g c =
    let refused = c.in_err-shelve_next.field-0.0 in
    rw (Err-passed c.from_residual.result refused c.from_residual.ensures.1)
    (IsLogReading-err (g.D.Disk.state c.args.disk.now) (g.D.Disk.state c.shelve_next.new.disk)
    refused
    (IsLogReading-both (g.D.Disk.state c.args.disk.now) (g.D.Disk.state c.loop-number.disk)
    (g.D.Disk.state c.shelve_next.new.disk) (Err refused) c.loop-number.invariant.reading
    c.in_err-shelve_next.ensures.reading))

pub returns-in_err-shelve_next-clause-loan : goal.returns-in_err-shelve_next-clause-loan
returns-in_err-shelve_next-clause-loan g c =
    c.in_err-shelve_next.ensures.loan ∙ c.loop-number.invariant.loan

pub loop-number-preserved : goal.loop-number-preserved
loop-number-preserved g c =
    let bodies = c.args.bodies.now in
    let core = c.args.core.now in
    let depot = depot_by bodies core in
    let number = c.loop-number.number in
    let old = kept_in c.loop-number.shelf in
    let new = kept_in c.shelve_next.new.shelf in
    let below : number < length bodies =
    omega (arith, c.loop-number-test.true, c.len-number-end.ensures.exact) in record {
      kept = ShelvesBefore-step depot number old new c.loop-number.invariant.kept
          c.in_ok-shelve_next.ensures.ok;
      read = Reads-step (g.D.Disk.state c.args.disk.now).holds bodies core number old new
          c.requires.replayed (omega (arith, c.loop-number.auto.number)) below
          c.loop-number.invariant.read c.in_ok-shelve_next.ensures.ok.others
          (IfSome-held (g.D.Disk.state c.args.disk.now).holds
          (g.D.Disk.state c.loop-number.disk).holds
          (λ image. rows_found image core.desc number (latest_in depot number) ≡ Ok (new number))
          c.loop-number.invariant.reading.same.held c.in_ok-shelve_next.ensures.exact);
      reading = IsLogReading-both (g.D.Disk.state c.args.disk.now)
          (g.D.Disk.state c.loop-number.disk) (g.D.Disk.state c.shelve_next.new.disk) (Ok tt)
          c.loop-number.invariant.reading c.in_ok-shelve_next.ensures.reading;
      loan = c.in_ok-shelve_next.ensures.loan ∙ c.loop-number.invariant.loan;
    }

pub returns-clause-exact : goal.returns-clause-exact
returns-clause-exact g c =
    let bodies = c.args.bodies.now in
    let core = c.args.core.now in
    let many = length-bodies bodies core c.requires.replayed in
    let last = c.loop-number.auto.number-end
    (omega (arith, c.len-number-end.ensures.exact, many)) in
    let end : c.loop-number.number ≡ length bodies =
    omega (arith, c.loop-number-test.false, c.len-number-end.ensures.exact, last) in
    Shelves-all (g.D.Disk.state c.args.disk.now).holds bodies core c.loop-number.number
    c.loop-number.shelf c.requires.replayed end c.loop-number.invariant.read

pub returns-clause-ok : goal.returns-clause-ok
returns-clause-ok g c =
    let bodies = c.args.bodies.now in
    let core = c.args.core.now in
    let many = length-bodies bodies core c.requires.replayed in
    let last = c.loop-number.auto.number-end
    (omega (arith, c.len-number-end.ensures.exact, many)) in
    let end : c.loop-number.number ≡ length bodies =
    omega (arith, c.loop-number-test.false, c.len-number-end.ensures.exact, last) in
    KeepsHeld-all bodies core c.loop-number.number (kept_in c.loop-number.shelf)
    c.requires.replayed end c.loop-number.invariant.kept

pub returns-clause-reading : goal.returns-clause-reading
returns-clause-reading g c = record {
  same = c.loop-number.invariant.reading.same;
  time = c.loop-number.invariant.reading.time;
  cause = c.loop-number.invariant.reading.cause;
}

pub returns-clause-loan : goal.returns-clause-loan
returns-clause-loan g c = c.loop-number.invariant.loan
