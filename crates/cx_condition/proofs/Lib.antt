mod BitLaws
mod DigitLaws
mod PartLaws
mod FrameLaws
mod MachineLaws
pub mod CompleteLaws
pub mod SameLaws
pub mod SoundLaws
mod ValueLaws
mod TreeLaws
mod Examples
