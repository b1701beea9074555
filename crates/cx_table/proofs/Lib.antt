pub mod EntryLaws
pub mod Examples
pub mod TableLaws
pub mod ValueLaws
