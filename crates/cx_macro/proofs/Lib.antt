pub mod CallLaws
pub mod AnswerLaws
pub mod BoundLaws
pub mod OutcomeLaws
pub mod PieceLaws
pub mod DefinableLaws
pub mod ExistenceLaws
pub mod LevelLaws
pub mod LookupLaws
mod ReplacementExamples
pub mod RoleLaws
pub mod SetLaws
pub mod StringLaws
pub mod SubstituteLaws
pub mod PastingLaws
pub mod ProgressLaws
pub mod StepLaws
pub mod TableLaws
pub mod CountingLaws
pub mod InvocationLaws
pub mod HideLaws
mod Examples
pub mod WalkLaws
pub mod SegmentLaws
pub mod FrameLaws
