pub mod Rules
pub mod Types
pub mod Parsing
pub mod TypeFronts
pub mod Agreement
pub mod Shapes
