-- What the code answers, as relations of its own shape.
pub mod Found
