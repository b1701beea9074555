pub mod Walking
pub mod Quotes
pub mod Scanning
pub mod Fronts
pub mod After
