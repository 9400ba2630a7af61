pub mod Spelling
pub mod Reading
pub mod Deliveries
pub mod Bodies
pub mod Answers
pub mod Laws
