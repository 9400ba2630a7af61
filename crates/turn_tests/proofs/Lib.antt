pub mod NumberLemmas
pub mod PassLemmas
