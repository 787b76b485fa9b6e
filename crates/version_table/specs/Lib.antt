pub mod Claims
pub mod Entries
pub mod Examples
pub mod History
pub mod Passes
pub mod Places
pub mod Run
pub mod Steps
