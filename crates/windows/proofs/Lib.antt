pub mod CallLaws
pub mod StateLaws
pub mod ResumeLaws
