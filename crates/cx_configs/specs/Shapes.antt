pub mod Sets
pub mod Lists
pub mod Found
pub mod Groups
pub mod Asks
