pub mod Ticks
pub mod Causes
