pub mod Front
pub mod Lent
pub mod Same
