use Rattle.catalog_journal.proofs.LawLemmas.{catalogs-have-one-reading}
use Rattle.catalog_journal.proofs.laws.catalogs_have_one_reading.Goals as goal

pub returns : goal.returns
returns c = record { law = catalogs-have-one-reading }
