pub mod BoolLemmas
pub mod ListLemmas
pub mod NumberLemmas
pub mod PartitionLemmas
pub mod SourceLemmas
pub mod DependentLemmas
