pub mod Slants
pub mod Laws
pub mod Examples
