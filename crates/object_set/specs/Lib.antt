pub mod Objects
pub mod TextValues
pub mod Keeping
pub mod Named
pub mod Renaming
pub mod Noting
pub mod Examples
