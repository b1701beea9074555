-- What the code computes, as functions and relations of its own shape.
pub mod Keys
