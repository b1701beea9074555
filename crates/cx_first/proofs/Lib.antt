mod Examples
pub mod TreeLaws
pub mod CountingLaws
pub mod RunLaws
pub mod StepLaws
pub mod TerminalLaws
pub mod NameLaws
pub mod DescentLaws
pub mod ExpressionLaws
pub mod StatementLaws
pub mod ReaderLaws
pub mod SizeLaws
pub mod SameLaws
pub mod NodeLaws
pub mod Digits
