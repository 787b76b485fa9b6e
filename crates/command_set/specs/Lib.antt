pub mod Refusals
pub mod Lawful
pub mod Examples
