pub mod Ranked
pub mod Axes
mod Examples
