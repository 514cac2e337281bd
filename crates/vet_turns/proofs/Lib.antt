pub mod Names
pub mod StartBy
pub mod TurnBy
pub mod WorstBy
