pub mod Links
pub mod Pairing
pub mod Sweeping
