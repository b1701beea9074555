-- Functions of the code's own shape, each joined by laws to the definition that its file names.
pub mod Asked
pub mod Cuts
pub mod Found
