-- A write, of which each moment is torn at most, and then a sync, which adds no image.
use Rattle.std.proofs.Common.{ℕ, length, sym, ◌∙◌, subst}
use Rattle.std.specs.declared.option.Option.{Option}
use Rattle.depot_io.specs.Causes.{HasCause}
use Rattle.depot_disk.specs.Image.{Image}
use Rattle.depot_disk.specs.Torn.{Torn}
use Rattle.depot_disk.specs.State.{Becomes, Stepped}
use Rattle.depot_disk.proofs.TornLemmas.{Torn-same}
use Rattle.depot_disk.proofs.RunLemmas.{LeavesOnly-call}
use Rattle.depot_disk.proofs.ThroughLemmas.{LeavesOnly-through, OnOk-always, durable-written}
use Rattle.depot_disk.proofs.through.write_through.Goals as goal

pub returns-in_err-write-clause-any_moment : goal.returns-in_err-write-clause-any_moment
returns-in_err-write-clause-any_moment g c =
    let old = g.D.Disk.state c.args.disk.now in
    LeavesOnly-call old (g.D.Disk.state c.write.new.self)
    (Stepped (Torn c.args.file c.args.at (length c.args.bytes.now)) old.may_leave)
    (g.met.D.Disk.one_piece c.args.disk.now) c.write.ensures.call.time
    (λ image left. (image, left, Torn-same c.args.file c.args.at (length c.args.bytes.now) image))
    c.write.ensures.left

pub returns-clause-ok : goal.returns-clause-ok
returns-clause-ok g c = OnOk-always c.sync.result _ (c.sync.ensures.held ∙ c.in_ok-write.ensures.ok)

pub returns-clause-part : goal.returns-clause-part
returns-clause-part g c =
    subst (λ (held : Option Image).
    Becomes (Torn c.args.file c.args.at (length c.args.bytes.now))
    (g.D.Disk.state c.args.disk.now).holds held)
    (sym c.sync.ensures.held) c.write.ensures.part

pub returns-clause-durable : goal.returns-clause-durable
returns-clause-durable g c =
    durable-written c.sync.result c.args.file c.args.at c.args.bytes.now
    (g.D.Disk.state c.args.disk.now).holds (g.D.Disk.state c.write.new.self).holds
    (g.D.Disk.state c.sync.new.self).may_leave c.in_ok-write.ensures.ok c.sync.ensures.ok

pub returns-clause-any_moment : goal.returns-clause-any_moment
returns-clause-any_moment g c =
    LeavesOnly-through (g.D.Disk.state c.args.disk.now) (g.D.Disk.state c.write.new.self)
    (g.D.Disk.state c.sync.new.self) c.args.file c.args.at (length c.args.bytes.now)
    (g.met.D.Disk.one_piece c.args.disk.now) (g.met.D.Disk.one_piece c.write.new.self)
    c.write.ensures.call.time c.sync.ensures.call.time c.write.ensures.left c.sync.ensures.left

pub returns-clause-cause : goal.returns-clause-cause
returns-clause-cause g c =
    subst (λ (count : ℕ). HasCause count (g.D.Disk.state c.sync.new.self).faults c.sync.result)
    c.in_ok-write.ensures.call.cause.kept c.sync.ensures.call.cause
