pub mod Ranges
pub mod Keys
pub mod Values
pub mod Colours
pub mod Attrs
pub mod Examples
