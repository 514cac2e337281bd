pub mod Marks
pub mod Scans
pub mod Shorts
pub mod Spans
