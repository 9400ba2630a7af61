pub mod CutLemmas
pub mod FlexibleRows
