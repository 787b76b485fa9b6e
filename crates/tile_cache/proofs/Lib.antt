pub mod Order
pub mod Caches
