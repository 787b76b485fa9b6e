pub mod Woven
pub mod Seen
pub mod Expanded
pub mod Models
pub mod Faults
pub mod Edited
pub mod Reported
