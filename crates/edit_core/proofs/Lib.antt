pub mod ListLaws
pub mod TreeSteps
pub mod Answered
pub mod ModelLaws
pub mod Resulting
pub mod VerdictLaws
