pub mod DifferentLemmas
