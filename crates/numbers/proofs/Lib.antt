pub mod TopBit
pub mod Filling
pub mod PairLaws
pub mod Counting
pub mod Grouping
