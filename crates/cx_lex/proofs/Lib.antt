pub mod AnswerLaws
pub mod Barren
pub mod Behinds
pub mod Blocks
pub mod ElementComplete
pub mod ElementSound
mod Examples
pub mod FormLaws
pub mod Found
pub mod FrontLaws
pub mod GoesLaws
pub mod LongestLaws
pub mod MemberLaws
pub mod OnePiece
pub mod Onward
pub mod Outcomes
pub mod PieceOrNone
pub mod Plain
pub mod Quotes
pub mod Runs
pub mod Scans
pub mod Steps
mod TextExamples
pub mod Texts
pub mod Walk
pub mod Well
