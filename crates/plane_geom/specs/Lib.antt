pub mod Vectors
pub mod Edges
pub mod Planes
pub mod Chords
pub mod Crossings
pub mod Examples
