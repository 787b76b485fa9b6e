pub mod Totals
pub mod Places
pub mod Claims
pub mod Moves
pub mod Runs
