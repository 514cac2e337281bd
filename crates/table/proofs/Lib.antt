pub mod CheckLaws
pub mod ReadLaws
