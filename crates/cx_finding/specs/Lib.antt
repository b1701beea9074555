pub mod Kinds
pub mod Distinct
pub mod Texts
pub mod Shapes
