pub mod Kinds
pub mod Lines
pub mod Nesting
pub mod Shapes
pub mod Whole
