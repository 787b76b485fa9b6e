pub mod Divisors
pub mod Euclid
pub mod Newton
pub mod Products
pub mod RootDigits
