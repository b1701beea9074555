pub mod Levels
pub mod Values
pub mod Digits
pub mod Constants
pub mod Parts
pub mod Conditions
pub mod Shapes
