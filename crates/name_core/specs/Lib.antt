pub mod NameParts
pub mod NameText
pub mod Same
