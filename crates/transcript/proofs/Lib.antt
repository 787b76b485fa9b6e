pub mod LineLaws
pub mod Printable
pub mod TranscriptLaws
pub mod MergeLaws
pub mod RunLaws
pub mod RefusedLaws
pub mod Readable
