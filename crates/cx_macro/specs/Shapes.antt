-- Functions of the code's own shape, each joined by laws to the definition that its file names.
pub mod Calls
pub mod Counting
pub mod Frames
pub mod Invocations
pub mod Levels
pub mod Roles
pub mod Segments
pub mod Steps
pub mod Substitutes
pub mod Uses
pub mod Walks
