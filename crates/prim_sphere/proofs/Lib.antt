pub mod Chords
pub mod Bounds
pub mod Examples
