pub mod Nest
pub mod Moves
