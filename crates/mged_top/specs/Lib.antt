pub mod Answers
pub mod Courses
pub mod Outside
pub mod Outcomes
pub mod Statuses
pub mod Calls
pub mod Stages
pub mod Examples
