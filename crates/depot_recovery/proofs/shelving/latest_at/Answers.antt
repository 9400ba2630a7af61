-- The body at a number tells its entry.
use Rattle.std.proofs.Common.{◌∙◌, ap, refl, sym}
use Rattle.std.specs.Prelude.{Ok}
use Rattle.row_codec.specs.declared.body.Body.TheVariants as body
use Rattle.depot_recovery.proofs.LatestLemmas.{IsReadAt, IsReadAt-body, read_body-fine}
use Rattle.depot_recovery.proofs.shelving.latest_at.Goals as goal

read_at : (c : goal.In-Ok-Install) → IsReadAt c.args.bodies.now c.args.core.now c.args.number
    (body.Install c.in-Ok-Install.key c.in-Ok-Install.field-0-1 c.in-Ok-Install.len)
read_at c =
    IsReadAt-body c.args.bodies.now c.args.core.now c.args.number c.in-Some.bytes.now
    (body.Install c.in-Ok-Install.key c.in-Ok-Install.field-0-1 c.in-Ok-Install.len)
    c.requires.replayed c.requires.some (sym c.in-Some.ensures.exact)
    (c.in-Ok-Install.ensures.exact ∙ ap Ok c.in-Ok-Install.field-0-is)

pub is_latest-requires-clause-install : goal.is_latest-requires-clause-install
is_latest-requires-clause-install c = (read_at c).install

pub returns-then-is_latest : goal.returns-then-is_latest
returns-then-is_latest c =
    let read = IsReadAt-body c.args.bodies.now c.args.core.now c.args.number c.in-Some.bytes.now
    (body.Install c.in-Ok-Install.key c.in-Ok-Install.field-0-1 c.in-Ok-Install.len)
    c.requires.replayed c.requires.some (sym c.in-Some.ensures.exact)
    (c.in-Ok-Install.ensures.exact ∙ ap Ok c.in-Ok-Install.field-0-is) in
    record { exact = rw (read.latest, ← c.is_latest.ensures.exact, c.if-is_latest.true) refl }

pub returns-else-is_latest : goal.returns-else-is_latest
returns-else-is_latest c =
    let read = IsReadAt-body c.args.bodies.now c.args.core.now c.args.number c.in-Some.bytes.now
    (body.Install c.in-Ok-Install.key c.in-Ok-Install.field-0-1 c.in-Ok-Install.len)
    c.requires.replayed c.requires.some (sym c.in-Some.ensures.exact)
    (c.in-Ok-Install.ensures.exact ∙ ap Ok c.in-Ok-Install.field-0-is) in
    record { exact = rw (read.latest, ← c.is_latest.ensures.exact, c.if-is_latest.false) refl }

pub returns-in-Ok-Load : goal.returns-in-Ok-Load
returns-in-Ok-Load c =
    record {
      exact = sym (IsReadAt-body c.args.bodies.now c.args.core.now c.args.number
          c.in-Some.bytes.now (body.Load c.in-Ok-Load.field-0-0) c.requires.replayed
          c.requires.some (sym c.in-Some.ensures.exact)
          (c.in-Ok-Load.ensures.exact ∙ ap Ok c.in-Ok-Load.field-0-is)).latest;
    }

pub unreachable-requires-in-Err : goal.unreachable-requires-in-Err
unreachable-requires-in-Err c =
    read_body-fine c.args.bodies.now c.args.core.now c.args.number c.in-Some.bytes.now
    c.in-Err.field-0 c.requires.replayed c.requires.some (sym c.in-Some.ensures.exact)
    c.in-Err.ensures.exact
