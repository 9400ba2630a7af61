pub mod KeptJournals
pub mod Changes
pub mod Pinning
