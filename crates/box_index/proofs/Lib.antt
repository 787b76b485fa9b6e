pub mod Members
pub mod Placing
mod Listing
mod Touching
mod Bounding
mod Widths
mod Crossing
mod Trees
mod Parting
