pub mod ListForms
pub mod Edits
pub mod Refused
pub mod Outcomes
pub mod Verdicts
pub mod Steps
pub mod Modelling
pub mod Examples
