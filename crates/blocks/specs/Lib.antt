pub mod Clauses
pub mod Landmarks
pub mod Parts
