-- The faults of files, as faults of a depot.
use Rattle.catalog_journal.specs.declared.fault.LogFault.{LogFault}
use Rattle.catalog_journal.specs.declared.fault.LogFault.TheVariants as log
use Rattle.version_store.specs.declared.fault.FileFault.{FileFault}
use Rattle.version_store.specs.declared.fault.FileFault.TheVariants as file

abbrev pub as_open_fault : FileFault → LogFault
as_open_fault (file.Damaged number place) = log.Damaged number place
as_open_fault file.DiskFault = log.DiskFault
as_open_fault file.Memory = log.Memory
