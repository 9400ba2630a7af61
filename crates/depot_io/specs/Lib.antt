pub mod Causes
pub mod Puts
pub mod InMemory
pub mod Reading
pub mod Lines
pub mod Adapters
