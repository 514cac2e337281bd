pub mod WorkLaws
pub mod SettleLaws
pub mod Ranges
pub mod Answers
