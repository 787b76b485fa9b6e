pub mod Answered
pub mod Readable
pub mod Noted
pub mod Joined
pub mod Laws
pub mod Examples
