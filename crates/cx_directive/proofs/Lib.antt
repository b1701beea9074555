mod AnswerLaws
mod BodyLaws
mod CutLaws
mod DefineLaws
mod DistinctLaws
mod Examples
mod ParameterLaws
