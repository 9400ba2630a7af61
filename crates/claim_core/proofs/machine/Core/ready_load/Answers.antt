-- The core refuses what its book of raw rows refuses.
use Rattle.std.proofs.Common.{Ok, Err, refl}
use Rattle.std.specs.Prelude.{Result}
use Rattle.raw_load.specs.declared.prepared.LoadFault.{LoadFault}
use Rattle.raw_load.specs.Preparing.{PreparedOf}
use Rattle.claim_core.proofs.LoadingLemmas.{IsLoadCause-core, counts_of-core}
use Rattle.claim_core.proofs.machine.Core.ready_load.Goals as goal

pub returns-in-Ok-reserve-clause-counts : goal.returns-in-Ok-reserve-clause-counts
returns-in-Ok-reserve-clause-counts c =
    counts_of-core _ c.args.self.now c.self.inside.order.items c.prepare.new.self c.in-Ok.prepared
    c.args.delivery c.self.view_is c.self.invariant.loads refl c.in-Ok.ensures.kept
    c.in-Ok.ensures.ok c.in-Ok.ensures.exact

pub returns-in-Ok-reserve-clause-cause : goal.returns-in-Ok-reserve-clause-cause
returns-in-Ok-reserve-clause-cause c =
    let result : Result PreparedOf LoadFault = Ok c.in-Ok.prepared in
    IsLoadCause-core _ c.args.self.now c.self.inside.order.items c.args.delivery result
    c.self.view_is c.self.invariant refl c.in-Ok.ensures.cause

pub returns-in-Err-reserve-clause-cause : goal.returns-in-Err-reserve-clause-cause
returns-in-Err-reserve-clause-cause c =
    let result : Result PreparedOf LoadFault = Ok c.in-Ok.prepared in
    IsLoadCause-core _ c.args.self.now c.self.inside.order.items c.args.delivery result
    c.self.view_is c.self.invariant refl c.in-Ok.ensures.cause

pub returns-in-Err-clause-cause : goal.returns-in-Err-clause-cause
returns-in-Err-clause-cause c =
    let result : Result PreparedOf LoadFault = Err c.in-Err.fault in
    IsLoadCause-core _ c.args.self.now c.self.inside.order.items c.args.delivery result
    c.self.view_is c.self.invariant refl c.in-Err.ensures.cause
