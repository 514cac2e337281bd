pub mod ItemLaws
pub mod ShortRuns
