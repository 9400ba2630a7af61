pub mod Few
pub mod Keys
pub mod Index
