-- What the code answers, as functions and relations of its own shape.
pub mod Gives
pub mod Starting
