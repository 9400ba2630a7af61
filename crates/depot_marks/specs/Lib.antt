pub mod Closings
pub mod Numbers
pub mod Missed
pub mod FeedMarks
pub mod MarkBooks
pub mod Runs
pub mod Windows
pub mod Below
