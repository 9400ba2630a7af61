use Rattle.std.proofs.Common.{◌∙◌, ◌+◌, drop, length-drop, sym, arith}
use Rattle.std.proofs.lemmas.List.{take_rest}
use Rattle.desc_lines.specs.Texts.{lines_of}
use Rattle.table_desc.proofs.TextLemmas.{Err-passed, Reads-bad, lines_of-none, lines_of-step}
use Rattle.table_desc.proofs.TextLemmas.{with_lines-step}
use Rattle.table_desc.proofs.describing.read_desc.Goals as goal

pub returns-in_err-accepted : goal.returns-in_err-accepted
returns-in_err-accepted c =
    let step = lines_of-step c.loop-end.rest.now c.in-Some.end (sym c.in-Some.ensures.exact) in
    record {
      exact = rw (
        Err-passed c.from_residual.result c.in_err-accepted.field-0.0 c.from_residual.ensures.1,
        ← c.loop-end.invariant.described,
        step,
        ← c.without_cr.ensures.exact,
      )
          (Reads-bad c.in_err-accepted.field-0.0 c.loop-end.number c.loop-end.accepted.desc
          c.without_cr.result.now (lines_of (drop (c.in-Some.end + 1) c.loop-end.rest.now))
          c.in_err-accepted.ensures.exact);
    }

pub loop-end-preserved : goal.loop-end-preserved
loop-end-preserved c =
    let step = lines_of-step c.loop-end.rest.now c.in-Some.end (sym c.in-Some.ensures.exact) in
    let whole = rw (step, ← c.without_cr.ensures.exact) at c.loop-end.invariant.described in
    record {
      described = rw (take_rest c.loop-end.rest.now (c.in-Some.end + 1))
          (sym (with_lines-step c.loop-end.number c.loop-end.accepted.desc c.in_ok-accepted.accepted.desc
          c.without_cr.result.now (lines_of (drop (c.in-Some.end + 1) c.loop-end.rest.now))
          c.in_ok-accepted.ensures.exact) ∙ whole);
      within = rw (take_rest c.loop-end.rest.now (c.in-Some.end + 1))
          (omega (
            arith,
            length-drop (c.in-Some.end + 1) c.loop-end.rest.now,
            c.in-Some.ensures.within,
            c.loop-end.invariant.within,
          ));
    }

pub returns : goal.returns
returns c = record {
  exact = rw (
    ← c.loop-end.invariant.described,
    lines_of-none c.loop-end.rest.now (sym c.in_default.ensures.exact),
  )
      c.with_numbered-2.ensures.exact;
}
