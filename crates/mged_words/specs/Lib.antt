pub mod Commands
pub mod Entries
pub mod Scripts
pub mod Readings
pub mod Readable
pub mod Order
pub mod OneLine
pub mod Examples
