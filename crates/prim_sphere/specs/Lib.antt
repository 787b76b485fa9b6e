pub mod Spheres
pub mod Examples
