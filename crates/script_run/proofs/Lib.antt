pub mod AtOnceLaws
pub mod JoinLaws
pub mod LaneLaws
pub mod OrderLaws
pub mod RunLaws
pub mod TaskLaws
pub mod WriteLaws
