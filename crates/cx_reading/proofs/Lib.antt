pub mod Turns
pub mod TokenLaws
pub mod RowLaws
pub mod AnswerLaws
mod WordLaws
pub mod TypeLaws
pub mod OrderLaws
mod Examples
