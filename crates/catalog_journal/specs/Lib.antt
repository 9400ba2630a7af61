pub mod Catalog
pub mod Reading
pub mod Logs
pub mod Moments
pub mod Answers
pub mod Laws
pub mod Gates
