pub mod Parts
pub mod Segments
pub mod Escapes
pub mod Numerals
pub mod Bodies
pub mod Rests
