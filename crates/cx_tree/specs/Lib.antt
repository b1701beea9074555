pub mod IntegerTypes
pub mod ConversionRules
pub mod Arithmetic
pub mod Laws
pub mod Shapes
