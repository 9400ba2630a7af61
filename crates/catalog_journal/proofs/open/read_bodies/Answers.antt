-- What was found is what is read.
use Rattle.std.proofs.Common.{ℕ, List, Ok, arith, refl, subst, sym, ◌∙◌}
use Rattle.catalog_journal.specs.declared.open.Records.{Records}
use Rattle.catalog_journal.specs.Answers.{HasFound}
use Rattle.catalog_journal.proofs.OpenLemmas.{IsReadAs-some, some-count}
use Rattle.catalog_journal.proofs.open.read_bodies.Goals as goal

pub returns : goal.returns
returns c =
    let records : Records = c.in_ok-records.records in
    let found : HasFound c.args.bytes.items (Ok records) =
    subst (λ (l : List ℕ). HasFound l (Ok records)) c.as_slice.ensures.value
    c.in_ok-records.ensures.exact in
    rw c.new.ensures.exact (record {
      exact = IsReadAs-some c.args.bytes.items records
          (record { end = records.end; count = c.len.result }) found
          (omega (
            arith,
            records.spans.ok.0,
            some-count _ (sym c.if-is_empty.false ∙ c.is_empty.ensures),
          ))
          refl (omega (arith, records.spans.ok.0, c.len.ensures));
    })
