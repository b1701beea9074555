pub mod Brackets
pub mod Cutting
pub mod Shapes
