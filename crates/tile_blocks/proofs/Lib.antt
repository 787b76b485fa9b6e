pub mod Chunks
pub mod BlockLaws
pub mod RowLaws
pub mod TileLaws
pub mod WholeLaws
