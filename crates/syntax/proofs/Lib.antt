pub mod CheckLaws
pub mod EndLaws
