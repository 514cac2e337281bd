pub mod Arms
pub mod BlockArms
pub mod Places
pub mod Strides
