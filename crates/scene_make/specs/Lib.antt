pub mod Draws
pub mod Demo
pub mod Steps
pub mod Examples
