pub mod Answers
pub mod Arguments
pub mod Command
pub mod Limits
pub mod Settings
pub mod Shapes
pub mod Spellings
pub mod Texts
