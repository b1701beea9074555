mod Examples
pub mod FileLists
pub mod FollowLaws
pub mod IncludeLaws
pub mod ReachLaws
mod SearchExamples
pub mod SearchLaws
