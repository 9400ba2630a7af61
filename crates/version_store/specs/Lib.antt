pub mod Files
pub mod Reading
pub mod Shelves
pub mod Laws
