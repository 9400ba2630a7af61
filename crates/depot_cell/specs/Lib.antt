pub mod ShortText
pub mod Numbers
pub mod Cells
pub mod Reading
pub mod Spelling
