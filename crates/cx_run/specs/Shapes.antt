-- What the code does on its way, as relations of its own shape.
pub mod Stops
pub mod Told
