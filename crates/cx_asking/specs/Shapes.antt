pub mod Asks
pub mod Indexed
pub mod Steps
pub mod Whole
