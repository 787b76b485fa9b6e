pub mod Numbers
pub mod Grammar
pub mod Reading
pub mod Command
pub mod Examples
