pub mod Answers
pub mod Runs
pub mod Steps
pub mod AtOnce
pub mod Orders
pub mod OrderSteps
pub mod OrderExamples
