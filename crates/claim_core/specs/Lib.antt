pub mod JournalView
pub mod Cores
