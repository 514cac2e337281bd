pub mod Asks
pub mod ClauseWays
pub mod Elements
pub mod EndsBy
pub mod Places
pub mod Sequences
pub mod VettablePlaces
