pub mod Acting
pub mod Planning
pub mod Ran
