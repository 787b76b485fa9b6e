pub mod FirstSteps
pub mod NearFirst
pub mod Examples
