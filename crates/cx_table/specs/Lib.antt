pub mod NameKey
pub mod NameTable
