pub mod Rays
pub mod Examples
