pub mod Arguments
pub mod BuiltIn
pub mod Joined
pub mod Known
pub mod Library
pub mod Shapes
