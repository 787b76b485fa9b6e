pub mod PictureLaws
pub mod PresentLaws
mod CheckLaws
pub mod ShotLaws
pub mod ObjectLaws
pub mod EditLaws
pub mod ListingLaws
pub mod CoreLaws
pub mod StartLaws
pub mod PlaceLaws
pub mod UsedLaws
pub mod KeepLaws
pub mod TellLaws
pub mod MoreLaws
pub mod SessionLaws
mod FlightLaws
mod FlyLaws
pub mod PointLaws
mod ShotExamples
