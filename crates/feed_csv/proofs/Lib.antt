pub mod ListLemmas
pub mod FrontLemmas
pub mod CsvRecords
pub mod BodyLemmas
pub mod NamedLemmas
pub mod RowLemmas
