pub mod CutLaws
pub mod TextLaws
pub mod KeepLaws
pub mod SettleLaws
pub mod ProgressLaws
pub mod ReadLaws
pub mod WritingLaws
