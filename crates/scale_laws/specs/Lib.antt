pub mod Scenes
pub mod SceneLaws
pub mod Models
pub mod ModelLaws
pub mod Examples
