pub mod Separated
mod QuotientExamples
