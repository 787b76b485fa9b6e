pub mod Lists
pub mod Putting
pub mod Landing
pub mod Laying
pub mod Overlapping
