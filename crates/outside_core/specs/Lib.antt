pub mod CallCounts
pub mod Examples
pub mod Faults
pub mod Files
pub mod Partial
pub mod Told
pub mod Transfers
pub mod Views
