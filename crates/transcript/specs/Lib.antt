pub mod Lines
pub mod Merge
pub mod Run
pub mod Answers
pub mod Transcript
pub mod Reading
pub mod Outcome
pub mod Examples
