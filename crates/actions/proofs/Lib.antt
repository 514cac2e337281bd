pub mod ActLaws
pub mod Buffer
pub mod DirectLaws
pub mod Joining
pub mod Plans
pub mod Sources
