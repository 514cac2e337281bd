pub mod States
pub mod Calls
pub mod Continuing
pub mod Examples
