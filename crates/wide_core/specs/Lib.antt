pub mod Gcd
pub mod Root
pub mod Examples
