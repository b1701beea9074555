pub mod Terminals
pub mod Shapes
