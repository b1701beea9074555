pub mod Roles
pub mod Parsers
pub mod Nests
