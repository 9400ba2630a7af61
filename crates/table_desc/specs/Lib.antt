pub mod Declarations
pub mod SaidLines
pub mod Described
pub mod Drafts
pub mod Canonical
