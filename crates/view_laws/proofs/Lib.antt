pub mod Numbers
pub mod Silent
pub mod Hits
pub mod LeftOut
pub mod Kept
pub mod Free
pub mod Turning
pub mod Pixels
pub mod Reports
pub mod FirstRegion
pub mod OnePixel
pub mod OneReport
mod PointExamples
