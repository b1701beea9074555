pub mod ChoiceLaws
pub mod DecisionLaws
pub mod EnterLaws
mod Examples
pub mod FrontLaws
pub mod KindLaws
pub mod LengthLaws
pub mod MarkLaws
pub mod OneLaws
pub mod SectionLaws
pub mod SomeLaws
mod StartExamples
pub mod StartLaws
pub mod StepLaws
pub mod UnitLaws
pub mod ValueLaws
