pub mod Limits
pub mod Asking
pub mod Findings
pub mod Reports
pub mod Written
pub mod Run
pub mod Shapes
