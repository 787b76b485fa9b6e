pub mod Counted
pub mod ViewLaws
mod AnswerExamples
