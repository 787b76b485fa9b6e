pub mod Nodes
pub mod Lists
pub mod Meaning
pub mod Changes
pub mod Outcomes
pub mod Steps
