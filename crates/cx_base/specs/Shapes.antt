pub mod Members
pub mod MemoryCalls
pub mod Simple
pub mod SimplePath
