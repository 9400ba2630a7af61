pub mod Time
pub mod Partitions
