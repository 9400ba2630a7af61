-- The mark file's size changes nothing; then two writes that stay.
use Rattle.std.proofs.Common.{subst, sym, ◌∙◌, arith}
use Rattle.std.specs.Prelude.{IsSome}
use Rattle.catalog_journal.proofs.FreshLemmas.{HoldsLog-made, IsLogOf-first, IsMade-through}
use Rattle.catalog_journal.proofs.FreshLemmas.{LeavesOnly-beginning, LeavesOnly-marking}
use Rattle.catalog_journal.proofs.ThroughLemmas.{Becomes-told}
use Rattle.catalog_journal.proofs.log.Log.fresh.Goals as goal

pub returns-in_err-write_through-clause-any_moment :
    goal.returns-in_err-write_through-clause-any_moment
returns-in_err-write_through-clause-any_moment g c shown unmarked =
    LeavesOnly-beginning (g.D.Disk.state c.args.disk.now) (g.D.Disk.state c.size.new.self)
    c.args.body.now c.deref.result.now unmarked (g.met.D.Disk.one_piece c.args.disk.now)
    c.size.ensures.reading.same c.size.ensures.reading.call.time
    (g.D.Disk.state c.write_through.new.disk) c.write_through.ensures.any_moment

pub returns-in_err-write_through-2-clause-any_moment :
    goal.returns-in_err-write_through-2-clause-any_moment
returns-in_err-write_through-2-clause-any_moment g c shown unmarked =
    LeavesOnly-marking (g.D.Disk.state c.args.disk.now) (g.D.Disk.state c.size.new.self)
    c.args.body.now c.deref.result.now unmarked (g.met.D.Disk.one_piece c.args.disk.now)
    c.size.ensures.reading.same c.size.ensures.reading.call.time
    (g.D.Disk.state c.write_through.new.disk)
    (record {
      told_old = g.met.D.Disk.one_piece c.size.new.self;
      told_new = g.met.D.Disk.one_piece c.write_through.new.disk;
      run = c.write_through.ensures.any_moment;
      durable = c.in_ok-write_through.ensures.durable;
    })
    (subst IsSome (sym c.size.ensures.reading.same.held) shown) c.requires.short
    (c.deref.ensures.value ∙ c.in_ok-bytes.ensures.exact)
    (g.D.Disk.state c.write_through-2.new.disk) c.write_through-2.ensures.any_moment

pub returns-clause-held : goal.returns-clause-held
returns-clause-held g c =
    HoldsLog-made _ c.args.body.now c.deref.result.now (g.D.Disk.state c.size.new.self).holds
    (g.D.Disk.state c.write_through.new.disk).holds (g.D.Disk.state c.write_through-2.new.disk).holds
    (IsLogOf-first c.args.body.now c.deref.result.now c.len.result
    (c.deref.ensures.value ∙ c.in_ok-bytes.ensures.exact)
    (omega (arith, c.len.ensures, c.deref.ensures.len)))
    c.requires.short (c.deref.ensures.value ∙ c.in_ok-bytes.ensures.exact)
    c.in_ok-write_through.ensures.ok c.in_ok-write_through-2.ensures.ok

pub returns-clause-any_moment : goal.returns-clause-any_moment
returns-clause-any_moment g c shown unmarked =
    LeavesOnly-marking (g.D.Disk.state c.args.disk.now) (g.D.Disk.state c.size.new.self)
    c.args.body.now c.deref.result.now unmarked (g.met.D.Disk.one_piece c.args.disk.now)
    c.size.ensures.reading.same c.size.ensures.reading.call.time
    (g.D.Disk.state c.write_through.new.disk)
    (record {
      told_old = g.met.D.Disk.one_piece c.size.new.self;
      told_new = g.met.D.Disk.one_piece c.write_through.new.disk;
      run = c.write_through.ensures.any_moment;
      durable = c.in_ok-write_through.ensures.durable;
    })
    (subst IsSome (sym c.size.ensures.reading.same.held) shown) c.requires.short
    (c.deref.ensures.value ∙ c.in_ok-bytes.ensures.exact)
    (g.D.Disk.state c.write_through-2.new.disk) c.write_through-2.ensures.any_moment

pub returns-clause-durable : goal.returns-clause-durable
returns-clause-durable g c shown unmarked =
    let here = subst IsSome (sym c.size.ensures.reading.same.held) shown in
    IsMade-through (g.D.Disk.state c.args.disk.now) (g.D.Disk.state c.size.new.self)
    c.args.body.now c.deref.result.now unmarked (g.met.D.Disk.one_piece c.args.disk.now)
    c.size.ensures.reading.same c.size.ensures.reading.call.time
    (g.D.Disk.state c.write_through.new.disk)
    (record {
      told_old = g.met.D.Disk.one_piece c.size.new.self;
      told_new = g.met.D.Disk.one_piece c.write_through.new.disk;
      run = c.write_through.ensures.any_moment;
      durable = c.in_ok-write_through.ensures.durable;
    })
    here c.requires.short (c.deref.ensures.value ∙ c.in_ok-bytes.ensures.exact)
    (g.D.Disk.state c.write_through-2.new.disk)
    (record {
      told_old = g.met.D.Disk.one_piece c.write_through.new.disk;
      told_new = g.met.D.Disk.one_piece c.write_through-2.new.disk;
      run = c.write_through-2.ensures.any_moment;
      durable = c.in_ok-write_through-2.ensures.durable;
    })
    (Becomes-told _ (g.D.Disk.state c.size.new.self).holds
    (g.D.Disk.state c.write_through.new.disk).holds c.write_through.ensures.part ∙ here)
