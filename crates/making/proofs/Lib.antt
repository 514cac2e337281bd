pub mod Made
pub mod Spelled
