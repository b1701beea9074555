pub mod Closures
pub mod Includes
pub mod Searches
pub mod Shelves
pub mod Shapes
