pub mod KeptLaws
pub mod TileLaws
pub mod StopLaws
pub mod Led
pub mod PictureLaws
pub mod CheckLaws
mod PlaceLaws
mod Presents
mod FlightLaws
