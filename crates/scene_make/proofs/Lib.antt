pub mod NameLaws
pub mod TextLaws
pub mod UnionLaws
pub mod SizeLaws
pub mod TurnLaws
pub mod SoundLaws
pub mod AgainLaws
