pub mod KeyLemmas
pub mod IndexLemmas
