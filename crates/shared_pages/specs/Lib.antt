pub mod Buckets
pub mod Examples
pub mod Groups
pub mod Named
pub mod Opened
pub mod Pages
pub mod Sharing
