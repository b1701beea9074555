pub mod Answers
pub mod Defines
pub mod Operands
pub mod Shapes
