pub mod Characters
pub mod Lines
pub mod Forms
pub mod Elements
pub mod Lexing
pub mod Faults
pub mod WholeText
pub mod Shapes
