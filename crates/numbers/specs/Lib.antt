pub mod Counts
pub mod CountExamples
pub mod Pairs
