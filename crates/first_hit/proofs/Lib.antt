pub mod Ordering
pub mod FirstSearch
pub mod Fronting
pub mod Owning
pub mod Passing
pub mod LowestHits
pub mod Seeing
pub mod NearFirst
