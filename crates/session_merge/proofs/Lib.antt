pub mod AnsweredLaws
pub mod RunLaws
pub mod OutcomeLaws
pub mod CountLaws
pub mod JoinedLaws
