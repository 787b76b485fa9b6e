pub mod Pictures
pub mod Examples
