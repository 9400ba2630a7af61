use Rattle.std.proofs.Common.{◌≡◌, ◌∙◌, arith}
use Rattle.std.proofs.lemmas.Grind.{common_steps}
use Rattle.depot_script.proofs.FlexibleRows.{flexible_rows, rows-flexible}
use Rattle.depot_script.proofs.rows.rows_text.Goals as goal

pub returns-in-Ok : goal.returns-in-Ok
returns-in-Ok c =
    let written : c.in-Ok.text.items ≡ flexible_rows c.args.rows.now =
    grind (arith, common_steps) in
    record { exact = written ∙ rows-flexible c.args.rows.now }
