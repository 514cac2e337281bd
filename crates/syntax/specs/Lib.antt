pub mod Checks
pub mod Ends
