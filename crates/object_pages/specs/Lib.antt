pub mod Changes
pub mod Entries
pub mod Examples
pub mod Keeping
pub mod Members
pub mod Tallies
