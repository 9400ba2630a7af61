pub mod Items
pub mod Reading
pub mod ScriptCalls
pub mod SerialJournal
pub mod Answers
pub mod Replies
pub mod Runs
pub mod Acceptance
