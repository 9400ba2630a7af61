-- Each line is read by what the lemmas on openings say of it.
use Rattle.std.proofs.Common.{◌≡◌, ◌+◌, List, ℕ, false, true, arith, sym, ◌∙◌, ap, refl}
use Rattle.std.proofs.lemmas.Option.{IfSome_then}
use Rattle.desc_lines.specs.Words.{is_go, words}
use Rattle.table_desc.specs.Drafts.{DraftOf, with_more}
use Rattle.depot_cli.specs.Reading.{opening}
use Rattle.depot_io.proofs.ReadingLemmas.{ReadsOn-same, ReadsOn-step}
use Rattle.table_desc.proofs.TextLemmas.{Err-passed}
use Rattle.depot_cli.proofs.OpeningLemmas.{HasOpened-fault, HasOpened-go, HasOpened-start}
use Rattle.depot_cli.proofs.OpeningLemmas.{HasOpened-line}
use Rattle.depot_cli.proofs.script.read_opening.Goals as goal

pub lines-init : goal.lines-init
lines-init g c = record {
  opened = rw c.requires.start (HasOpened-start _ _ c.new-draft.ensures.exact);
  few = rw c.new-draft.ensures.exact (omega arith);
  faults = refl;
  kept = ReadsOn-same g.S.Source.bytes_left g.S.Source.loan c.args.reader.now (omega (
    arith,
    c.requires.start,
  ));
}

pub lines-preserved : goal.lines-preserved
lines-preserved g c =
    let there = c.if-not-branch.false in
    let goes : is_go (words c.take_line.new.reader.line) ≡ false =
    ap (λ (line : List ℕ). is_go (words line)) (sym c.line.ensures.exact)
    ∙ sym c.in_ok-is_go_line.ensures.exact ∙ c.if-branch.false in
    let next : c.in_ok-draft.draft ≡ with_more c.lines.draft c.take_line.new.reader.line =
    c.in_ok-draft.ensures.exact
    ∙ ap (λ (line : List ℕ). with_more c.lines.draft line) c.line-in-lines.ensures.exact in
    let count : c.in_ok-draft.draft.lines ≡ c.lines.draft.lines + 1 =
    ap (λ (draft : DraftOf). draft.lines) next in
    record {
      opened = rw next (IfSome_then _ c.lines.invariant.opened (λ bytes opened.
          HasOpened-line (opening bytes) _ _ _ 0 _ _ _ _ opened there
          c.in_ok-take_line.ensures.answer c.in_ok-take_line.ensures.taken goes));
      few = omega (arith, c.in_ok-take_line.ensures.more there);
      faults = c.in_ok-take_line.ensures.cause ∙ c.lines.invariant.faults;
      kept = ReadsOn-step g.S.Source.bytes_left g.S.Source.loan _ _ _ c.lines.invariant.kept
          c.in_ok-take_line.ensures.kept;
    }

pub returns-in_err-take_line-clause-answer : goal.returns-in_err-take_line-clause-answer
returns-in_err-take_line-clause-answer g c =
    rw (Err-passed c.from_residual.result c.in_err-take_line.field-0.0 c.from_residual.ensures.1)
    (IfSome_then _ c.lines.invariant.opened (λ bytes opened.
    HasOpened-fault (opening bytes) c.lines.draft c.lines.reader.taken c.take_line.new.reader.taken
    (0 + c.lines.reader.taken) c.take_line.new.reader.line
    (g.S.Source.bytes_left c.lines.reader.source)
    (g.S.Source.bytes_left c.take_line.new.reader.source) c.in_err-take_line.field-0.0 opened
    (omega arith) c.in_err-take_line.ensures.answer))

pub returns-then-branch-clause-answer : goal.returns-then-branch-clause-answer
returns-then-branch-clause-answer g c =
    let goes : is_go (words c.take_line.new.reader.line) ≡ true =
    ap (λ (line : List ℕ). is_go (words line)) (sym c.line.ensures.exact)
    ∙ sym c.in_ok-is_go_line.ensures.exact ∙ c.if-branch.true in
    IfSome_then _ c.lines.invariant.opened (λ bytes opened.
    HasOpened-go (opening bytes) c.lines.draft c.lines.reader.taken c.take_line.new.reader.taken
    (0 + c.lines.reader.taken) c.take_line.new.reader.line c.in_ok-take_line.field-0
    (g.S.Source.bytes_left c.lines.reader.source)
    (g.S.Source.bytes_left c.take_line.new.reader.source) opened c.if-not-branch.false
    c.in_ok-take_line.ensures.answer c.in_ok-take_line.ensures.taken goes)

pub returns-in_err-take_line-clause-kept : goal.returns-in_err-take_line-clause-kept
returns-in_err-take_line-clause-kept g c =
    ReadsOn-step g.S.Source.bytes_left g.S.Source.loan _ _ _ c.lines.invariant.kept
    c.in_err-take_line.ensures.kept

pub returns-then-not-branch-clause-kept : goal.returns-then-not-branch-clause-kept
returns-then-not-branch-clause-kept g c =
    ReadsOn-step g.S.Source.bytes_left g.S.Source.loan _ _ _ c.lines.invariant.kept
    c.in_ok-take_line.ensures.kept

pub returns-in_err-is_go_line-clause-kept : goal.returns-in_err-is_go_line-clause-kept
returns-in_err-is_go_line-clause-kept g c =
    ReadsOn-step g.S.Source.bytes_left g.S.Source.loan _ _ _ c.lines.invariant.kept
    c.in_ok-take_line.ensures.kept

pub returns-then-branch-clause-kept : goal.returns-then-branch-clause-kept
returns-then-branch-clause-kept g c =
    ReadsOn-step g.S.Source.bytes_left g.S.Source.loan _ _ _ c.lines.invariant.kept
    c.in_ok-take_line.ensures.kept

pub returns-in_err-draft-clause-kept : goal.returns-in_err-draft-clause-kept
returns-in_err-draft-clause-kept g c =
    ReadsOn-step g.S.Source.bytes_left g.S.Source.loan _ _ _ c.lines.invariant.kept
    c.in_ok-take_line.ensures.kept
