mod Examples
pub mod FaultLaws
pub mod TookLaws
pub mod RunLaws
pub mod WrittenLaws
pub mod PieceLaws
pub mod CheckedLaws
pub mod OptionsLaws
pub mod EndLaws
pub mod GroundLaws
pub mod ReportLaws
pub mod SomeReport
