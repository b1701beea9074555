pub mod Machine
pub mod NextPart
pub mod Reading
pub mod Signs
