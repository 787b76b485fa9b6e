pub mod Renamed
pub mod Distinct
pub mod Noted
pub mod Each
