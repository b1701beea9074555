pub mod Naming
pub mod Reading
pub mod Rows
pub mod Telling
