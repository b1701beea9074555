-- What the code answers, as functions of its own shape.
pub mod Outlines
pub mod Ends
