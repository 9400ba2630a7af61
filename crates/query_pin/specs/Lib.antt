pub mod Requests
pub mod Inputs
pub mod Readers
pub mod Pins
pub mod Kept
pub mod Held
