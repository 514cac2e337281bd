pub mod Cuts
pub mod Long
pub mod Buffers
pub mod Steps
pub mod Holding
pub mod InChunks
pub mod CuttingExamples
