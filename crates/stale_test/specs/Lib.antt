pub mod PartLists
pub mod Places
pub mod Histories
pub mod Standings
pub mod Readers
pub mod Keeping
pub mod Books
