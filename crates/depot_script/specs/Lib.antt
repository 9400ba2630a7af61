pub mod Written
pub mod CommandValues
pub mod Faults
pub mod Commands
pub mod Values
pub mod Names
pub mod Texts
