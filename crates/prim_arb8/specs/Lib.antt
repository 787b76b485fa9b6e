pub mod Points
pub mod Faces
pub mod Solids
pub mod Laws
pub mod Rpps
pub mod Bounds
pub mod Placing
pub mod Examples
