-- The records found so far, and what the rest is read as, are what all is read as.
use Rattle.std.proofs.Common.{◌-◌}
use Rattle.catalog_journal.specs.Catalog.{MOST_RECORDS}
use Rattle.catalog_journal.proofs.OpenLemmas.{IsFound}
use Rattle.catalog_journal.proofs.open.find_records.Given as goal

abbrev pub invariant-loop : goal.invariant-loop
invariant-loop l = IsFound l.bytes (MOST_RECORDS - l.counter) l.records
