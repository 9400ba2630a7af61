use Rattle.std.proofs.Common.{ap}
use Rattle.desc_lines.specs.Written.{WrittenTableOf}
use Rattle.table_desc.proofs.FineLemmas.{IsFine-none, IsReady-table, is_name-table}
use Rattle.table_desc.proofs.declaring.declared_table.Goals as goal

pub declared_filling-requires : goal.declared_filling-requires
declared_filling-requires c =
    let fine = IsFine-none c.args.accepted.now.desc c.args.table.now c.requires.fine in
    let kind = ap (λ (table : WrittenTableOf). table.kind) c.table.view_is in
    record {
      ready = rw kind (IsReady-table c.args.accepted.now.desc c.args.table.now
          c.args.accepted.now.is_accepted fine);
    }

pub name_text-requires : goal.name_text-requires
name_text-requires c =
    let fine = IsFine-none c.args.accepted.now.desc c.args.table.now c.requires.fine in
    let name = ap (λ (table : WrittenTableOf). table.name) c.table.view_is in
    record { named = rw name (is_name-table c.args.accepted.now.desc c.args.table.now fine) }
