pub mod Pruning
pub mod ReportPoints
pub mod PixelPoints
pub mod Examples
