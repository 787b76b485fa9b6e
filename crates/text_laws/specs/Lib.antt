pub mod PutAgain
pub mod TextAgain
pub mod Fits
