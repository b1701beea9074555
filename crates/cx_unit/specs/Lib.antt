pub mod Names
pub mod Faults
pub mod First
pub mod Told
pub mod Closures
pub mod Units
pub mod Grounds
pub mod Shapes
