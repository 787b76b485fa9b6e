pub mod Commands
pub mod CutSteps
pub mod Reading
pub mod Written
pub mod Examples
pub mod Steps
pub mod Gathering
pub mod Progress
