-- Each piece that is read makes the front longer, and none says that it is whole.
use Rattle.std.proofs.Common.{◌+◌, ◌-◌, length, ◌∙◌, refl, rules, arith}
use borrow.Rule.Slice.PartMut.{put_mid}
use Rattle.depot_disk.specs.Image.{bytes_in}
use Rattle.depot_disk.specs.Torn.{IsPiece}
use Rattle.depot_disk.specs.Front.{HasFront, IsFront}
use Rattle.depot_disk.proofs.StateLemmas.{IsReading-none, IsReading-both, IsReading-err, IsReading-ok}
use Rattle.depot_disk.proofs.FrontLemmas.{HasFront-step, IfSome-and, IsFront-end, length-put_rest, rest-size}
use Rattle.depot_disk.proofs.front.read_front.Goals as goal

pub loop-count-init : goal.loop-count-init
loop-count-init g c = record {
  fits = omega arith;
  front = search rules;
  reading = IsReading-none (g.D.Disk.state c.args.disk.now) 0;
  loan = refl;
}

pub loop-count-preserved : goal.loop-count-preserved
loop-count-preserved g c = record {
  fits = omega (
    arith,
    c.in_ok-count.ensures.within,
    rest-size c.loop-count.done c.loop-count.into
        c.read.new.into c.read.auto.into,
    length-put_rest c.loop-count.done
        c.loop-count.into c.read.new.into c.loop-count.invariant.fits (rest-size c.loop-count.done c.loop-count.into c.read.new.into c.read.auto.into),
  );
  front = IfSome-and (g.D.Disk.state c.args.disk.now).holds (g.D.Disk.state c.loop-count.disk).holds
      (λ image. HasFront (bytes_in image c.args.file) c.loop-count.done c.loop-count.into)
      (λ image. IsPiece (bytes_in image c.args.file) c.loop-count.done c.in_ok-count.count c.read.new.into)
      (λ image. HasFront (bytes_in image c.args.file) (c.loop-count.done + c.in_ok-count.count)
      (put_mid c.loop-count.done (length c.loop-count.into - c.loop-count.done)
      c.loop-count.into c.read.new.into))
      c.loop-count.invariant.reading.same.held
      (λ image has read. HasFront-step (bytes_in image c.args.file) c.loop-count.done
      c.in_ok-count.count c.loop-count.into c.read.new.into has read
      (rest-size c.loop-count.done c.loop-count.into c.read.new.into c.read.auto.into))
      c.loop-count.invariant.front c.in_ok-count.ensures.exact;
  reading = IsReading-both (g.D.Disk.state c.args.disk.now) (g.D.Disk.state c.loop-count.disk)
      (g.D.Disk.state c.read.new.self) c.loop-count.done _ c.loop-count.invariant.reading
      (IsReading-ok (g.D.Disk.state c.loop-count.disk) (g.D.Disk.state c.read.new.self)
      c.in_ok-count.count (c.loop-count.done + c.in_ok-count.count) c.in_ok-count.ensures.reading);
  loan = c.in_ok-count.ensures.loan ∙ c.loop-count.invariant.loan;
}

pub returns-then-count-eq0-clause-exact : goal.returns-then-count-eq0-clause-exact
returns-then-count-eq0-clause-exact g c =
    IfSome-and (g.D.Disk.state c.args.disk.now).holds (g.D.Disk.state c.loop-count.disk).holds
    (λ image. HasFront (bytes_in image c.args.file) c.loop-count.done c.loop-count.into)
    (λ image. IsPiece (bytes_in image c.args.file) c.loop-count.done c.in_ok-count.count c.read.new.into)
    (λ image. IsFront (bytes_in image c.args.file) c.loop-count.done
    (put_mid c.loop-count.done (length c.loop-count.into - c.loop-count.done)
    c.loop-count.into c.read.new.into))
    c.loop-count.invariant.reading.same.held
    (λ image has read. IsFront-end (bytes_in image c.args.file) c.loop-count.done
    c.in_ok-count.count c.loop-count.into c.read.new.into c.if-count-eq0.true has read
    (rest-size c.loop-count.done c.loop-count.into c.read.new.into c.read.auto.into))
    c.loop-count.invariant.front c.in_ok-count.ensures.exact

pub returns-then-count-eq0-clause-reading : goal.returns-then-count-eq0-clause-reading
returns-then-count-eq0-clause-reading g c =
    IsReading-both (g.D.Disk.state c.args.disk.now) (g.D.Disk.state c.loop-count.disk)
    (g.D.Disk.state c.read.new.self) c.loop-count.done _ c.loop-count.invariant.reading
    (IsReading-ok (g.D.Disk.state c.loop-count.disk) (g.D.Disk.state c.read.new.self)
    c.in_ok-count.count c.loop-count.done c.in_ok-count.ensures.reading)

pub returns-in_err-count-clause-reading : goal.returns-in_err-count-clause-reading
returns-in_err-count-clause-reading g c =
    IsReading-both (g.D.Disk.state c.args.disk.now) (g.D.Disk.state c.loop-count.disk)
    (g.D.Disk.state c.read.new.self) c.loop-count.done c.from_residual.result
    c.loop-count.invariant.reading
    (IsReading-err (g.D.Disk.state c.loop-count.disk) (g.D.Disk.state c.read.new.self)
    c.in_err-count.field-0.0 c.from_residual.result c.from_residual.ensures.0
    c.in_err-count.ensures.reading)
