pub mod Stretches
pub mod Pieces
pub mod Books
pub mod Feeds
pub mod Sorting
pub mod Loads
pub mod Preparing
pub mod Ready
