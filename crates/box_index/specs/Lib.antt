pub mod Places
pub mod Reaches
pub mod Cuts
pub mod Lines
pub mod Bounds
pub mod Nodes
pub mod Examples
