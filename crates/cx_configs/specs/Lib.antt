pub mod Configurations
pub mod Questions
pub mod Shapes
