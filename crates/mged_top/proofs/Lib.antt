pub mod LoadLaws
pub mod OrderLaws
pub mod ReadLaws
pub mod ShelfLaws
pub mod PutLaws
pub mod CallLaws
