pub mod Choosing
pub mod Conditions
pub mod Shapes
pub mod Stages
pub mod Starts
