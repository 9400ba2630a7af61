-- What a line and its body say of the step: a fault at either, or a body that is too big.
use Rattle.std.proofs.Common.{List, ℕ, ap, sym, ◌∙◌, ◌+◌, ◌≡◌}
use Rattle.std.specs.Prelude.{Result, Err}
use Rattle.depot_script.specs.declared.body.BodySize.{BodySize}
use Rattle.depot_script.specs.declared.body.BodySize.TheVariants as body
use Rattle.depot_script.specs.declared.fault.CommandFault.{CommandFault}
use Rattle.depot_script.specs.CommandValues.{CommandOf}
use Rattle.depot_script.specs.Commands.{body_size, line_command}
use Rattle.depot_script.specs.Values.{read_value}
use Rattle.desc_types.specs.Descriptions.{DescOf}
use Rattle.depot_io.proofs.ReadingLemmas.{ReadsOn-step}
use Rattle.depot_cli.specs.declared.run.status.InputEnd.TheVariants as why
use Rattle.depot_cli.specs.declared.script.ScriptFault.TheVariants.{Input}
use Rattle.table_desc.proofs.TextLemmas.{Err-passed}
use Rattle.depot_cli.proofs.StepLemmas.{IsRead, IsStep-after, IsStep-big, IsStep-body_fault}
use Rattle.depot_cli.proofs.StepLemmas.{IsStep-line_fault}
use Rattle.depot_cli.proofs.script.next_work.Goals as goal

-- what was read of a line, by what was shown of it
IsRead-shown : (desc : DescOf) (line shown : List ℕ) (command : Result CommandOf CommandFault)
    (its_size size : BodySize)
    → shown ≡ line → command ≡ line_command desc shown → its_size ≡ body_size shown
    → its_size ≡ size → IsRead desc line command size
IsRead-shown desc line shown command its_size size is_line is_command read is_size = record {
  is_command = ap (λ (line : List ℕ). line_command desc line) (sym is_line) ∙ sym is_command;
  is_size = ap body_size (sym is_line) ∙ sym read ∙ is_size;
}

pub returns-in_err-take_line-clause-answer : goal.returns-in_err-take_line-clause-answer
returns-in_err-take_line-clause-answer g c =
    rw (Err-passed c.from_residual.result c.in_err-take_line.field-0.0 c.from_residual.ensures.1)
    (IsStep-line_fault c.args.served.now.desc c.args.base c.args.reader.now.taken
    c.take_line.new.reader.taken c.take_line.new.reader.line
    (g.S.Source.bytes_left c.args.reader.now.source)
    (g.S.Source.bytes_left c.take_line.new.reader.source) c.in_err-take_line.field-0.0
    c.in_err-take_line.ensures.answer)

pub returns-in_err-take_body-in-Body-clause-answer :
    goal.returns-in_err-take_body-in-Body-clause-answer
returns-in_err-take_body-in-Body-clause-answer g c =
    let its_command = read_value c.in_ok-command.command in
    let read = IsRead-shown c.args.served.now.desc c.take_line.new.reader.line c.line.result.now
    its_command c.in_ok-command.size (body.Body c.in-Body.size) c.line.ensures.exact
    c.in_ok-command.ensures.command c.in_ok-command.ensures.size c.in-Body.is in
    rw (Err-passed c.from_residual-in_err-take_body-in-Body.result
    c.in_err-take_body-in-Body.field-0.0 c.from_residual-in_err-take_body-in-Body.ensures.1)
    (IsStep-after c.args.served.now.desc c.args.base c.args.reader.now.taken
    c.take_line.new.reader.taken c.take_body.new.reader.taken
    (c.args.base + c.args.reader.now.taken) its_command (body.Body c.in-Body.size)
    c.take_line.new.reader.line c.in_ok-take_line.field-0
    (g.S.Source.bytes_left c.args.reader.now.source)
    (g.S.Source.bytes_left c.take_line.new.reader.source)
    (g.S.Source.bytes_left c.take_body.new.reader.source)
    (Err c.in_err-take_body-in-Body.field-0.0) c.if-not-branch.false read
    c.in_ok-take_line.ensures.answer c.in_ok-take_line.ensures.taken
    (IsStep-body_fault c.args.served.now.desc c.args.base c.take_line.new.reader.taken
    c.take_body.new.reader.taken c.in-Body.size its_command c.take_body.new.body.items
    (g.S.Source.bytes_left c.take_line.new.reader.source)
    (g.S.Source.bytes_left c.take_body.new.reader.source) c.in_err-take_body-in-Body.field-0.0
    c.in_err-take_body-in-Body.ensures.answer))

pub returns-in-TooBig-clause-answer : goal.returns-in-TooBig-clause-answer
returns-in-TooBig-clause-answer g c =
    let its_command = read_value c.in_ok-command.command in
    let read = IsRead-shown c.args.served.now.desc c.take_line.new.reader.line c.line.result.now
    its_command c.in_ok-command.size body.TooBig c.line.ensures.exact
    c.in_ok-command.ensures.command c.in_ok-command.ensures.size c.in-TooBig.is in
    IsStep-after c.args.served.now.desc c.args.base c.args.reader.now.taken
    c.take_line.new.reader.taken c.take_line.new.reader.taken
    (c.args.base + c.args.reader.now.taken) its_command body.TooBig
    c.take_line.new.reader.line c.in_ok-take_line.field-0
    (g.S.Source.bytes_left c.args.reader.now.source)
    (g.S.Source.bytes_left c.take_line.new.reader.source)
    (g.S.Source.bytes_left c.take_line.new.reader.source)
    (Err (Input why.Big (c.args.base + c.taken.result))) c.if-not-branch.false read
    c.in_ok-take_line.ensures.answer c.in_ok-take_line.ensures.taken
    (IsStep-big c.args.served.now.desc c.args.base c.take_line.new.reader.taken
    (c.args.base + c.taken.result) its_command
    (g.S.Source.bytes_left c.take_line.new.reader.source)
    (ap (λ (taken : ℕ). c.args.base + taken) c.taken.ensures.exact))

pub returns-in_err-take_body-in-Body-clause-kept : goal.returns-in_err-take_body-in-Body-clause-kept
returns-in_err-take_body-in-Body-clause-kept g c =
    ReadsOn-step g.S.Source.bytes_left g.S.Source.loan _ _ _ c.in_ok-take_line.ensures.kept
    c.in_err-take_body-in-Body.ensures.kept

pub returns-in_err-work_of-in-Body-clause-kept : goal.returns-in_err-work_of-in-Body-clause-kept
returns-in_err-work_of-in-Body-clause-kept g c =
    ReadsOn-step g.S.Source.bytes_left g.S.Source.loan _ _ _ c.in_ok-take_line.ensures.kept
    c.in_ok-take_body-in-Body.ensures.kept

pub returns-in_ok-work_of-in-Body-clause-kept : goal.returns-in_ok-work_of-in-Body-clause-kept
returns-in_ok-work_of-in-Body-clause-kept g c =
    ReadsOn-step g.S.Source.bytes_left g.S.Source.loan _ _ _ c.in_ok-take_line.ensures.kept
    c.in_ok-take_body-in-Body.ensures.kept
