pub mod ClosureLaws
pub mod ConfiguredLaws
pub mod EndLaws
mod Examples
pub mod FirstLaws
pub mod ReportLaws
pub mod ToldLaws
pub mod UnitLaws
