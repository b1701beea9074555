pub mod Examples
pub mod KeyLaws
