pub mod Operators
pub mod Expressions
pub mod Shapes
pub mod Limits
pub mod Order
