pub mod States
pub mod Events
pub mod Contents
pub mod Claims
pub mod Progress
pub mod VersionCounts
