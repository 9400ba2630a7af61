-- Each turn finds a record more, or the end, or a fault.
use Rattle.std.proofs.Common.{ℕ, subst, refl, arith}
use Rattle.catalog_journal.proofs.OpenLemmas.{IsFound, IsFound-all, IsFound-closed, IsFound-cut}
use Rattle.catalog_journal.proofs.OpenLemmas.{IsFound-open}
use Rattle.catalog_journal.proofs.open.find_records.Goals as goal

pub returns-in-Closed : goal.returns-in-Closed
returns-in-Closed c = record {
  exact = (
    c.loop.invariant.places,
    λ i. (c.type_inv.bytes i).fits,
    IsFound-closed c.args.bytes.now c.loop.counter c.loop.records c.loop-test.true c.loop.invariant
        c.in-Closed.ensures.exact,
  );
}

pub returns-in-Cut : goal.returns-in-Cut
returns-in-Cut c =
    rw c.damaged.ensures.exact (record {
      exact = (
        refl,
        IsFound-cut c.args.bytes.now c.loop.counter c.loop.records c.loop-test.true
            c.loop.invariant c.in-Cut.ensures.exact,
      );
    })

pub loop-preserved : goal.loop-preserved
loop-preserved c = IsFound-open c.args.bytes.now c.loop.counter c.loop.records c.loop-test.true
    c.loop.invariant c.in-Open.len c.push.new.self c.in-Open.ensures.exact
    c.in_ok-push-in-Open.ensures.ok c.in_ok-push-in-Open.ensures.end

pub returns : goal.returns
returns c =
    let all : IsFound c.args.bytes.now 0 c.loop.records =
    subst (λ (n : ℕ). IsFound c.args.bytes.now n c.loop.records)
    (omega (arith, c.loop-test.false)) c.loop.invariant in
    record {
      exact = (all.places, λ i. (c.type_inv.bytes i).fits, IsFound-all c.args.bytes.now c.loop.records all);
    }
