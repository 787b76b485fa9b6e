pub mod Kept
pub mod Steps
pub mod Jobs
pub mod Named
pub mod Flights
pub mod Examples
pub mod FlightExamples
