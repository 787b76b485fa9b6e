pub mod LineLaws
pub mod ShotLaws
pub mod OverlapLaws
pub mod LeafLaws
pub mod PushLaws
pub mod SlantLaws
pub mod AreaLaws
