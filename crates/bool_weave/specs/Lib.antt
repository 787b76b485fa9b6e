pub mod Cuts
pub mod Masks
pub mod Lines
pub mod Claims
pub mod Laws
pub mod Tables
pub mod Behind
pub mod Examples
